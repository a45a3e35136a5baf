-- The definitions of `status`.
pub mod Psw
