pub mod Words
pub mod Tree
pub mod Events
pub mod Calls
pub mod Invariants
pub mod Turns
pub mod Rules
pub mod Promises
