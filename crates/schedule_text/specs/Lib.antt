pub mod Wants
pub mod Heard
pub mod Converted
