pub mod BoardCalls
pub mod Soundness
pub mod Corrections
pub mod Unseen
