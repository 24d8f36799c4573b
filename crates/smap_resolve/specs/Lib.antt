pub mod SourceName
pub mod Codes
pub mod Private
pub mod Paths
pub mod InnerNames
pub mod ByPath
pub mod Beside
