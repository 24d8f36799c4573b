-- What contracts of private functions alone cite.
pub mod PartWithin
pub mod Marked
pub mod Seen
pub mod Renamed
pub mod SameRecord
