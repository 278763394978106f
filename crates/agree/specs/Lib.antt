pub mod CuttingLaws
pub mod EntriesLaws
pub mod Sides
pub mod SidesLaws
pub mod TakesLaws
