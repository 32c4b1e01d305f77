-- The stated number of turns is enough.
pub mod Lowering
pub mod Seats
pub mod Falls
pub mod FallingFrees
pub mod FallingTurns
pub mod FallingRequests
pub mod LoadFrees
pub mod Load
pub mod Bound
