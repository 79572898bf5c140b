pub mod Printed
pub mod Answered
pub mod Programs
