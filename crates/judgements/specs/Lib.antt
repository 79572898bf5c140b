pub mod Replies
pub mod Single
