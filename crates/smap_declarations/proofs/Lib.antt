pub mod BracketLaws
pub mod DecidingLaws
pub mod EntryLaws
pub mod KeyLaws
mod Examples
pub mod LastLaws
pub mod NamingLaws
pub mod OrderLaws
pub mod PassingLaws
pub mod StepLaws
pub mod WaitingLaws
pub mod WordTable
