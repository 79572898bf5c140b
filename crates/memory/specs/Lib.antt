pub mod Map
pub mod Codes
pub mod Lines
pub mod Refusals
