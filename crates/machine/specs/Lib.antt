-- The definitions of `machine`.
pub mod Machine
