-- The law of `expected`.
pub mod RecordCompared
