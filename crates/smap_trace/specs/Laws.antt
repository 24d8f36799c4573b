pub mod Maps
pub mod Seen
pub mod MapsOf
pub mod Looked
pub mod Rewriter
