pub mod ActionLaws
pub mod Policy
pub mod Words
