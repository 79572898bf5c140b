pub mod BitLaws
pub mod SeenLaws
pub mod LineLaws
pub mod RuleLaws
pub mod SheetLaws
