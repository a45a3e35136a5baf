-- The definitions of `record`, in the order to read them.
pub mod Calls
pub mod Code
