-- What contracts of private functions alone cite.
pub mod Placed
pub mod Listing
pub mod Parts
pub mod Left
pub mod Used
pub mod Keys
pub mod Length
pub mod Walk
