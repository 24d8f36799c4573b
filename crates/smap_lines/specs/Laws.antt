pub mod Put
pub mod Number
pub mod Step
pub mod OneText
pub mod RunEnds
