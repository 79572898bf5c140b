pub mod Choice
pub mod Lists
pub mod Orders
pub mod Integers
