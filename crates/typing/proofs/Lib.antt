pub mod NodeTypings
pub mod Members
pub mod RuleTypings
pub mod Pairs
