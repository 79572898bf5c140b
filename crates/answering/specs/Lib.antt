pub mod TypeLines
pub mod Outcomes
pub mod Making
pub mod Editing
