-- What each step keeps.
pub mod Changes
pub mod Turning
pub mod Notes
pub mod Queues
pub mod FreeQueues
pub mod KeptQueueCalls
pub mod KeptQueues
pub mod FreeNotes
pub mod KeptNotes
pub mod KeptCalm
pub mod KeptTurns
pub mod KeptRequests
pub mod Waiters
pub mod Keeps
pub mod KeptFrees
pub mod KeptGivings
