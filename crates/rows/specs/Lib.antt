pub mod Bits
pub mod Seen
pub mod Lines
