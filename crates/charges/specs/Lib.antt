-- The definitions of `charges`, in the order to read them.
pub mod Charges
pub mod Code
