-- Lines, schedules and transcripts as bytes.
pub mod Text
pub mod Grammar
pub mod Lines
pub mod Runners
pub mod Schedule
pub mod Load
pub mod Written
