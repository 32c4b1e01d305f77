pub mod Upward
pub mod Listed
pub mod Kept
pub mod Climbing
pub mod Gone
pub mod Relimited
