-- What contracts of private functions alone cite.
pub mod OpenLine
pub mod Passage
