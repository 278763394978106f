pub mod PolicyLaws
pub mod WordsLaws
pub mod WrittenLaws
pub mod RowsLaws
pub mod Example
