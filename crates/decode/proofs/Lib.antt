-- The laws of `decode`.
pub mod Rows
pub mod Dispatch
pub mod Named
pub mod Small
pub mod Outcomes
pub mod Accesses
