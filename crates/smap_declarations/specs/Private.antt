-- What contracts of private functions alone cite.
pub mod Open
pub mod Found
pub mod Entries
pub mod Order
pub mod Waiting
pub mod Passing
pub mod Keys
