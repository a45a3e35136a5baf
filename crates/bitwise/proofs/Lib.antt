-- The laws of `bitwise`.
pub mod BitLaws
pub mod Sizes
