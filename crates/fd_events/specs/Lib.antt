pub mod Rotation
pub mod Changes
pub mod Linked
pub mod Picking
