-- What contracts of private functions alone cite.
pub mod Given
pub mod PutLine
pub mod PutPlace
pub mod Frames
pub mod Places
pub mod Stripping
pub mod Work
pub mod Rewriting
