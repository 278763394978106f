pub mod Lent
pub mod Sizes
pub mod FreshLaws
