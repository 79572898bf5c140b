pub mod Values
pub mod Slots
pub mod Judging
pub mod Replays
