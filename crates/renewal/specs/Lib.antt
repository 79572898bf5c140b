pub mod Touched
pub mod Fresh
pub mod Spread
pub mod Renewed
