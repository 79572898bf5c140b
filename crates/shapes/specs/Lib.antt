pub mod Fields
pub mod Calls
pub mod Forms
pub mod Iterate
pub mod Built
