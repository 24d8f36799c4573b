pub mod Explain
pub mod Stop
