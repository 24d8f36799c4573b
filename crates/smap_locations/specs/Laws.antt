pub mod Key
pub mod ByText
pub mod Common
