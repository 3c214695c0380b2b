-- What a turn of the selector's loops does.
pub mod Laws
