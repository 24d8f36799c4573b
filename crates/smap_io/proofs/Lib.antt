pub mod Examples
pub mod FrontLaws
pub mod KeptLaws
pub mod SeenLaws
pub mod TurnLaws
