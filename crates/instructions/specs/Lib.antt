-- The definitions of `instructions`, in the order to read them.
pub mod Action
pub mod Operands
pub mod Code
