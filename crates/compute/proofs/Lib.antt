-- The laws of `compute`.
pub mod Arms
pub mod Results
