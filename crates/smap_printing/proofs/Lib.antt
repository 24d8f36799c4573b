mod BareLaws
mod PutLaws
mod PrintedLaws
mod ShortTextLaws
mod EscapeLaws
mod MemberLaws
pub mod PositionLaws
pub mod ColumnLaws
mod ContextLaws
mod CountLaws
mod SourceLaws
