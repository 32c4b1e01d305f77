pub mod Keeping
pub mod Seeing
pub mod Going
pub mod LineSteps
pub mod Sessions
pub mod Findings
