pub mod Taken
pub mod Fields
