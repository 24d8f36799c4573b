-- What contracts of private functions alone cite.
pub mod Places
pub mod Texts
pub mod Counted
pub mod Counts
pub mod Left
