pub mod Search
pub mod SameLaws
pub mod NormalForm
pub mod Layout
