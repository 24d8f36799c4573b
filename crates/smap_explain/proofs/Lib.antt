pub mod BeginningLaws
pub mod FaultLaws
pub mod FirstLaws
pub mod RuleLaws
pub mod SectionLaws
pub mod StopLaws
