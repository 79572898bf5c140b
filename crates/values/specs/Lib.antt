pub mod Cells
pub mod Meanings
pub mod Integers
