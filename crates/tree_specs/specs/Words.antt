-- The words of schedules and transcripts: objects, names, bytes, and the ranges of numbers.
pub mod Names
pub mod Octets
pub mod Objects
pub mod Ranges
pub mod Wants
pub mod Kept
