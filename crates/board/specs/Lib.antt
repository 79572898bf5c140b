pub mod Edits
pub mod Board
pub mod Calls
pub mod Laws
pub mod Examples
