-- The definitions of `transfer`, in the order to read them.
pub mod Transfer
pub mod Code
