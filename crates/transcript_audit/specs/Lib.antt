pub mod Kept
pub mod Courses
pub mod Audits
pub mod Outcomes
pub mod Passes
