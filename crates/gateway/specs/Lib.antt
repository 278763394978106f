pub mod Cached
pub mod TriggerLaws
