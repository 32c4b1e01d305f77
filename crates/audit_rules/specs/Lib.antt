pub mod Rules
pub mod Flaws
pub mod Transcripts
pub mod Beginnings
pub mod Examples
