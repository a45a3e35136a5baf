-- The definitions of `run_calls`, in the order to read them.
pub mod Runs
pub mod Code
