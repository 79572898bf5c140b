pub mod Traces
pub mod Evaluating
