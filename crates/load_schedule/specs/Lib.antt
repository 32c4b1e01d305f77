pub mod Sources
pub mod Tallies
pub mod Loads
