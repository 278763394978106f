pub mod RangeLaws
pub mod ValueLaws
pub mod BetweenLaws
pub mod WordsLaws
pub mod HeldLaws
pub mod StoresLaws
pub mod OrderLaws
