-- What contracts of private functions alone cite.
pub mod EndNumber
pub mod EntrySeen
pub mod LocationSeen
pub mod Remembered
pub mod FrameRewriter
pub mod Noting
pub mod Passing
pub mod TextNoting
