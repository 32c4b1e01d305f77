pub mod OutputLaws
pub mod TellingLaws
pub mod NoteLaws
pub mod LinkLaws
pub mod ClockLaws
