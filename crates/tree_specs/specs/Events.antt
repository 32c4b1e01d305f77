-- Events: objects whose turn comes.
pub mod Coming
pub mod Contexts
pub mod Descriptors
pub mod Handlers
pub mod Pending
pub mod Queues
pub mod Requests
pub mod Rotation
