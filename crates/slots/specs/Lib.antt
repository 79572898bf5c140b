pub mod Parts
pub mod Machine
pub mod Order
pub mod Objects
pub mod Suits
pub mod Slots
