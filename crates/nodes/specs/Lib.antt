pub mod Nodes
pub mod Classes
pub mod Marks
