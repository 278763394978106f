pub mod InvariantLaws
pub mod LiveLaws
pub mod SlotsLaws
pub mod NextAnswerLaws
pub mod FirstLaws
pub mod Demand2
