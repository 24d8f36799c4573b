mod OverLaws
mod TellingLaws
