pub mod Listing
pub mod Order
pub mod Behind
pub mod Lanes
pub mod Linking
pub mod Adding
pub mod Leaving
