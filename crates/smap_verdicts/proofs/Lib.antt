pub mod FactsLaws
