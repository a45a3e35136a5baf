-- The definitions of `run_loop`, in the order to read them.
pub mod Run
pub mod Code
