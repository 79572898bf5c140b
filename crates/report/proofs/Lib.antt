mod LineLaws
pub mod ReportLaws
pub mod BoundLaws
pub mod PassLaws
mod VerdictLaws
pub mod RuleLaws
pub mod SheetLaws
