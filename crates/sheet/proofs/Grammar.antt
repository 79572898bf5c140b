-- The parser accepts exactly the grammar's sentences, each with one reading.
pub mod Single
pub mod Starts
pub mod Sound
pub mod Stops
pub mod Seen
pub mod Reached
pub mod Complete
pub mod Exact
pub mod Front
