pub mod Lowest
pub mod Codes
pub mod Parts
pub mod Findings
pub mod Roots
pub mod Among
pub mod Sheets
