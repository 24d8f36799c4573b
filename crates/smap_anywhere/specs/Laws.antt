pub mod FrameUrl
pub mod MapFront
pub mod AnywhereBy
pub mod AnywhereSeen
