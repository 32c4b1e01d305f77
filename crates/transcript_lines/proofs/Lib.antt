pub mod Parts
pub mod Spelling
pub mod Texts
pub mod Tables
pub mod HeadTables
pub mod Lasts
pub mod Digits
pub mod Lengths
