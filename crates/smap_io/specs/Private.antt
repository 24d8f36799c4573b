-- What contracts of private functions alone cite.
pub mod Front
pub mod Given
