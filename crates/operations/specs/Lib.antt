pub mod Runs
pub mod Operations
pub mod Collect
pub mod Operand
