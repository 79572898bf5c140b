pub mod Words
pub mod Lookups
