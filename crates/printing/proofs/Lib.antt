pub mod Verdicts
pub mod Lines
