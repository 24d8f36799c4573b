mod Examples
mod PathExamples
mod BesideLaws
pub mod PathPieceLaws
pub mod PathLaws
pub mod SlashLaws
