-- What the contracts of `udsbench` cite beside `bench`.
pub mod Hearing
