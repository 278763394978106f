pub mod Bytes
pub mod Decimals
pub mod Format
pub mod Edition1
pub mod Editions
pub mod Print
