pub mod Found
pub mod StoringLaws
