pub mod Parsing
pub mod RowsLaws
pub mod FileLaws
pub mod TakenLaws
