pub mod Conversions
pub mod Judging
