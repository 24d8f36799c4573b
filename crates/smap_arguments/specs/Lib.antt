pub mod CommandLine
pub mod Line
pub mod Excludes
pub mod Arguments
pub mod Refusals
pub mod Spread
pub mod Numbered
