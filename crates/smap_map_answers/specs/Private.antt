-- What contracts of private functions alone cite.
pub mod Room
pub mod Inners
pub mod OuterMap
