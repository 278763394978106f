pub mod Boxes
pub mod RangesLaws
pub mod BoxLaws
