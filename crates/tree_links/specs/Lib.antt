pub mod Links
pub mod Nodes
pub mod Edits
pub mod Walk
pub mod Weights
