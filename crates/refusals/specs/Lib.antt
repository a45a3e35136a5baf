-- The definitions of `refusals`, in the order to read them.
pub mod Request
pub mod Refusal
pub mod Cause
pub mod Code
