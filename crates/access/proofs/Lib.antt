-- The laws of `access`.
pub mod ReadFaults
pub mod WriteFaults
pub mod Forgotten
