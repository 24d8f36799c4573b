pub mod Hint
pub mod Usage
