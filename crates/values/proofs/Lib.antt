pub mod Heads
pub mod Encoding
pub mod Forming
pub mod Members
pub mod Growing
pub mod Scanning
pub mod Comparing
mod Seeking
mod Finding
mod Putting
pub mod Adding
mod Gathering
mod Ascending
mod Merging
mod Finishing
mod Moving
pub mod Arithmetic
pub mod Copying
