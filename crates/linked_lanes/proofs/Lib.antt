pub mod Lanes
pub mod Chains
pub mod Ends
pub mod Families
