pub mod Lanes
pub mod Packing
