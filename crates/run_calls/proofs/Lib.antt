-- The laws of `run_calls`.
pub mod CallLaws
