pub mod Packs
pub mod Beside
