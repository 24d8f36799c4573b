-- What contracts of private functions alone cite.
pub mod Causes
pub mod Fitting
pub mod Gathering
pub mod Listing
pub mod Naming
pub mod Sources
pub mod Locator
pub mod NamedLocator
