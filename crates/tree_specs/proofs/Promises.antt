-- Every story keeps what is promised.
pub mod Later
pub mod Past
pub mod Answering
pub mod Causes
pub mod Fine
pub mod FineCallers
pub mod FineDrops
pub mod FineFrees
pub mod FineTurns
pub mod FineRequests
pub mod FineOutside
pub mod Fitting
pub mod StoryOrder
pub mod Leaving
pub mod RunningCalls
