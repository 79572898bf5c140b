pub mod Renumbering
pub mod RenumberedLines
pub mod FreeNumbering
pub mod RenumberedExample
