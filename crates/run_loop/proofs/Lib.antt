-- The laws of `run_loop`, in the order to read them.
pub mod Loop
mod Doing
mod Going
pub mod Kept
pub mod Index
pub mod Charged
