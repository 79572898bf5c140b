pub mod TouchedLaws
pub mod BufferLaws
pub mod FreshLaws
pub mod FreshRuleLaws
pub mod AgainLaws
pub mod SpreadLaws
pub mod RenewalLaws
