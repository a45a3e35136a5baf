-- The laws of `arrays`.
pub mod Loops
pub mod WriteLaws
pub mod ReadLaws
