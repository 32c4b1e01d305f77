pub mod LineLaws
pub mod Feeding
