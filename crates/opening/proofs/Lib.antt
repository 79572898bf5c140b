pub mod Answers
pub mod Readings
pub mod Lines
