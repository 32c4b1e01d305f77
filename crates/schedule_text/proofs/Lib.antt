pub mod Fronts
pub mod Inputs
pub mod Parts
pub mod Wants
pub mod Converting
