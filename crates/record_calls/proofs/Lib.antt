-- The laws of `record_calls`.
pub mod RecordLaws
pub mod ViewLaws
