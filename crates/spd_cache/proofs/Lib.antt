pub mod CacheLaws
pub mod SlotLaws
pub mod LentLaws
