pub mod Pairs
pub mod PairsLaws
pub mod BestLaws
pub mod TableLaws
