-- What holds at every moment, and the measure that each step lowers.
pub mod Sound
pub mod Noted
pub mod Queued
pub mod Awaiting
pub mod Consistent
pub mod Measure
