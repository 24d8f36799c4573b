pub mod InOrder
pub mod Bounded
pub mod OwnUrls
pub mod Kept
pub mod Runs
pub mod Laws
pub mod Private
