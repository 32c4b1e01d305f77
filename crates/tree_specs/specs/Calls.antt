-- The calls, a row each: how one is spelled, what it is refused for, what it does; and what answers a question.
pub mod Spelling
pub mod Refusals
pub mod Passed
pub mod Plans
pub mod Given
