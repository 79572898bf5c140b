pub mod Tables
pub mod Entries
pub mod LineFields
pub mod Steps
