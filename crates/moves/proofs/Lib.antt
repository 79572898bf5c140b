pub mod JoinedLaws
pub mod ShiftLaws
pub mod GatherLaws
pub mod PlaceLaws
pub mod SpreadLaws
