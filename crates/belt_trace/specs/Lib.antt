-- The definitions of `belt_trace`.
pub mod Trace
