-- What the contracts of `off_field` cite besides `log_fields`.
pub mod Numbers
