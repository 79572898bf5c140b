pub mod Flat
pub mod Parts
pub mod Word
pub mod Rows
pub mod Reading
pub mod Written
