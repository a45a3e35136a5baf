-- The definitions of `access`, in the order to read them.
pub mod Read
pub mod Reads
pub mod Writes
pub mod Code
