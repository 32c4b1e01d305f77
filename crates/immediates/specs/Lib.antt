pub mod Waiting
pub mod Changes
pub mod Linked
