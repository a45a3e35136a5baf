-- The laws of `replay`.
pub mod StepLaws
pub mod CommandLaws
pub mod Mismatches
