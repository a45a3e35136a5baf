-- The definitions of `isolation`, in the order to read them.
pub mod Frames
pub mod Trace
pub mod Claim
