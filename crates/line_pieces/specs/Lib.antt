pub mod Cuts
pub mod Takings
pub mod Readings
pub mod States
