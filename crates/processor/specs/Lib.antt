-- The definitions of `processor`, in the order to read them.
pub mod Entry
pub mod State
pub mod Exception
pub mod Register
pub mod Tlb
