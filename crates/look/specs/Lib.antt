-- The definitions of `look`, in the order to read them.
pub mod Interrupt
pub mod Look
