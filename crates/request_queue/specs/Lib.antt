pub mod Register
pub mod Linked
