-- What contracts of private functions alone cite.
pub mod Answerer
pub mod Bare
pub mod GrowingText
pub mod Lines
pub mod ShortText
pub mod GatheredLine
pub mod Escapes
pub mod Members
pub mod Past
pub mod Plain
