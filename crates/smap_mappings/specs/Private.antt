-- What contracts of private functions alone cite.
pub mod Reading
pub mod Spelling
pub mod Advance
pub mod Step
pub mod Straight
pub mod Walk
pub mod Found
pub mod OneMore
