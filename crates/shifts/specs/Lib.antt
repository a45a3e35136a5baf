-- The definitions of `shifts`.
pub mod Shifts
