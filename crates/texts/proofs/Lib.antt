pub mod GatherLaws
pub mod PlacingLaws
pub mod JudgeLaws
pub mod LineLaws
