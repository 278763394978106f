pub mod Normalise
pub mod StepsLaws
pub mod Demand3
pub mod Demand3AsWritten
