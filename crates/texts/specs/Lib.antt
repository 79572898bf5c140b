pub mod Gathering
pub mod Placing
pub mod Judging
