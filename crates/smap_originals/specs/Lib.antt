pub mod Generated
pub mod Originals
pub mod Laws
pub mod Private
