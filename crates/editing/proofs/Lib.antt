pub mod EndLaws
pub mod EditLaws
