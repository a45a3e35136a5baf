-- The definitions of `bitwise`.
pub mod Bitwise
