pub mod Lists
pub mod Order
pub mod Range
pub mod Counts
