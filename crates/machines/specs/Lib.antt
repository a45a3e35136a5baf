-- The definitions of `machines`.
pub mod Unchanged
