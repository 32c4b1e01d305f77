-- The rows, their owners and what is inside them.
pub mod Numbered
pub mod Rows
pub mod Kids
pub mod Ancestry
pub mod Rooted
pub mod Settling
pub mod Walk
pub mod Attached
pub mod SumLaws
pub mod Heirs
pub mod References
pub mod Referring
