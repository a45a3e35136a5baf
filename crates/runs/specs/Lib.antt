-- The definitions of `runs`.
pub mod Code
