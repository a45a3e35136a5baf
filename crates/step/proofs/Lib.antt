-- The laws of `step`.
pub mod Looks
pub mod IndexLaws
pub mod TimerCases
pub mod StarredCases
pub mod StepLaws
pub mod SlotLaws
pub mod OpcodeLaws
pub mod PcLaws
pub mod StepFit
pub mod RepresentableKept
pub mod StepRepresentable
pub mod Named
