-- What contracts of private functions alone cite.
pub mod Base
pub mod FirstLine
pub mod Places
pub mod Rewriting
pub mod Unread
