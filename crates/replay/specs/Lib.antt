-- The definitions of `replay`, in the order to read them.
pub mod Tally
pub mod Agreement
pub mod Tallies
pub mod Replay
