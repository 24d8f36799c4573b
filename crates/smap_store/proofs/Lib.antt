mod ListLaws
mod PatternLaws
mod NamesLaws
mod Examples
