pub mod Run
pub mod Telling
pub mod Private
