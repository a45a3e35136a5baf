-- The definitions of `translation`.
pub mod Translation
pub mod Code
