-- What contracts of private functions alone cite.
pub mod Gathered
pub mod Nearest
pub mod Run
