-- Laws of `responder`: how rows are judged, what the store tells, each service, the reply in the buffer; and its promises.
pub mod Judged
pub mod Told
pub mod Services
pub mod Replies
pub mod Promises
