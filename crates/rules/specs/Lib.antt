pub mod Accepted
pub mod Numbered
pub mod All
pub mod Width
