pub mod Calls
pub mod Operands
pub mod Rules
