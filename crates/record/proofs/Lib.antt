-- The laws of `record`.
pub mod Fitness
pub mod Answers
pub mod MachineRead
pub mod WrittenRead
pub mod ReadWritten
pub mod Held
pub mod OldRecords
