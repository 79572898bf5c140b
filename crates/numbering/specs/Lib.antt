pub mod Lowest
pub mod Forms
pub mod Walk
pub mod Sheets
