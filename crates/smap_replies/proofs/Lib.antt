pub mod InTurnLaws
pub mod NextLaws
pub mod RunLaws
mod ShownLaws
pub mod StandingLaws
pub mod TellingLaws
pub mod TextLaws
pub mod WhyLaws
