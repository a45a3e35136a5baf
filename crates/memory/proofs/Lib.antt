-- The laws of `memory`.
pub mod Places
pub mod TimerPlaces
pub mod Outcomes
pub mod OwnBytes
pub mod StoreLaws
pub mod Frames
pub mod Bytewise
pub mod Examples
