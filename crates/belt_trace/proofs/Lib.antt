-- The laws of `belt_trace`.
pub mod Lines
