pub mod Counting
pub mod Upcoming
pub mod Objects
pub mod Agreeing
pub mod Requests
pub mod Queueing
pub mod Hosting
