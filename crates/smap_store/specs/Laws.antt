pub mod Kept
pub mod Stored
pub mod Named
pub mod UrlMaps
