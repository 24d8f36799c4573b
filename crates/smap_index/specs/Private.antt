-- What contracts of private functions alone cite.
pub mod Search
pub mod Walk
