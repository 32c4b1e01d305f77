pub mod Picks
pub mod Contexts
