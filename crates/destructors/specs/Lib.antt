pub mod Moves
pub mod Frees
pub mod Works
pub mod Runs
pub mod Room
pub mod Engine
pub mod Changes
