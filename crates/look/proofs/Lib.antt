-- The laws of `look`.
pub mod ChannelLoop
pub mod Ready
pub mod Looks
pub mod TimerChannel
