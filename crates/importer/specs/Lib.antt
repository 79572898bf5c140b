pub mod Leaves
pub mod Lets
pub mod Answers
pub mod Descent
pub mod Imports
pub mod Steps
pub mod Puts
