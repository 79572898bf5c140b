pub mod Reals
pub mod Bits
pub mod Digits
pub mod Spelling
pub mod Words
pub mod Floats
pub mod Laws
pub mod Cases
