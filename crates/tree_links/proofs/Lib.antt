pub mod Moves
pub mod Listing
pub mod Trees
pub mod Keeping
pub mod Leaf
pub mod Walking
pub mod Weighing
