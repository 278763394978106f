pub mod Header
pub mod Read
pub mod StepsLaws
pub mod ReadLaws
pub mod ExampleCases
