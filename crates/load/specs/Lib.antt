pub mod Windows
pub mod Record
pub mod Tally
pub mod Reading
pub mod Refusals
pub mod Reader
