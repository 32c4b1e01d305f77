-- What is promised of each story, and stories that break a promise.
pub mod Orderly
pub mod Grounded
pub mod Acceptances
pub mod BadStories
pub mod Refused
pub mod BadTexts
pub mod Idle
