-- Events, and what waits for its turn.
pub mod EntryLaws
pub mod HandlerLaws
pub mod NoteLaws
pub mod QueueLaws
pub mod PendingLaws
pub mod ContextLaws
pub mod KnownContexts
pub mod LiveContexts
pub mod RotationLaws
pub mod DescriptorLaws
pub mod Awaiting
pub mod AwaitingLists
pub mod AwaitingFrees
pub mod AwaitingSteps
pub mod AwaitingStories
