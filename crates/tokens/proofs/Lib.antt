pub mod CodeLaws
pub mod WordCodes
pub mod LengthLaws
pub mod TokenLaws
pub mod LabelLaws
pub mod BracketLaws
pub mod ByteLaws
pub mod ScanLaws
