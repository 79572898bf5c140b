pub mod ReadCalls
pub mod ProfileCalls
pub mod OutcomeLaws
pub mod EvaluateCalls
pub mod ReportCalls
pub mod RowsCalls
pub mod MakeCalls
pub mod EditCalls
