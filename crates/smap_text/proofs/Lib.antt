mod CharacterLaws
mod EndLaws
mod LineLaws
pub mod BeginLaws
mod UnitLaws
mod PlaceLaws
mod ExcerptLaws
mod ShownLaws
mod Examples
pub mod RestLaws
mod ShownLineLaws
