-- The definitions of `bytes`, in the order to read them.
pub mod Same
pub mod Bytes
