-- The definitions of `memory`, in the order to read them.
pub mod Map
pub mod Loaded
pub mod Stored
pub mod Access
pub mod Lent
pub mod Code
