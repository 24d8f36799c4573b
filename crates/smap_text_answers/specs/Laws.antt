pub mod Loader
pub mod Namer
pub mod Locator
pub mod NamedLocator
