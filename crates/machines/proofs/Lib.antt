-- The laws of `machines`.
pub mod Equal
