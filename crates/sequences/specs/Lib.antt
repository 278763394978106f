pub mod Sequence
pub mod Current
pub mod First
