pub mod Places
pub mod Best
