pub mod Lines
pub mod Sayings
pub mod Readings
pub mod Heads
pub mod Digits
