pub mod Device
pub mod FromStd
pub mod MemorySink
pub mod MemorySource
pub mod Sequences
pub mod WithoutSequences
pub mod Turns
pub mod Private
