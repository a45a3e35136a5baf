-- The laws of `quotients`.
pub mod IntegerDivision
pub mod Examples
pub mod Sizes
pub mod Division
