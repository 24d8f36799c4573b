mod ListLaws
mod NearestLaws
mod OrderLaws
mod FoundLaws
mod AnsweredLaws
mod DirectionLaws
mod WalkLaws
mod GatherLaws
