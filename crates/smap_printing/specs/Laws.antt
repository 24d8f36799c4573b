pub mod Answerer
