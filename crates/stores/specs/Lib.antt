-- What the contracts of `stores` cite beside `bench` and `rules`.
pub mod Places
