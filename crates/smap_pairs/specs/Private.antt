pub mod Rest
-- What contracts of private functions alone cite.
pub mod PathReading
-- What contracts of private functions alone cite.
pub mod FrameReading
-- What contracts of private functions alone cite.
pub mod EscapeWithin
-- What contracts of private functions alone cite.
pub mod Bare
