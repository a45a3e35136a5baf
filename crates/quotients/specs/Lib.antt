-- The definitions of `quotients`.
pub mod Quotients
pub mod Code
