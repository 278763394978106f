pub mod Range
pub mod Value
pub mod Ranges
pub mod Words
pub mod FieldLaws
