pub mod AllLaws
mod ToldLaws
