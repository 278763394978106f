pub mod Spd
