pub mod Soundness
pub mod Unseen
pub mod Boards
pub mod Corrections
