pub mod FieldLaws
pub mod ExactLaws
pub mod FormLaws
pub mod HeldLaws
pub mod BuiltLaws
pub mod LiteralLaws
pub mod IterateLaws
