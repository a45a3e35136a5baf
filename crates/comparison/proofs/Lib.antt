-- The laws of `comparison`.
pub mod Orders
pub mod Examples
