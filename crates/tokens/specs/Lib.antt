pub mod Signs
pub mod Codes
pub mod Meanings
