pub mod Driver
pub mod Allowed
pub mod Hearing
pub mod Seen
pub mod Watched
