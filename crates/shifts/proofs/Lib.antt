-- The laws of `shifts`.
pub mod ShiftLaws
pub mod ShiftBits
pub mod Examples
pub mod Sizes
