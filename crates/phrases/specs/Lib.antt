pub mod Forms
pub mod Meanings
