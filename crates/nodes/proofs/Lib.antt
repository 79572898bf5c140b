pub mod Nodes
pub mod Typing
pub mod Trace
pub mod Levels
pub mod Keep
pub mod Shapes
pub mod Marks
