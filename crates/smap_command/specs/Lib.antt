pub mod Limits
pub mod Lines
pub mod Options
pub mod Runnable
