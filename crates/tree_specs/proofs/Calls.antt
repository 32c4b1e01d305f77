-- Refusals and plans of calls.
pub mod Checks
pub mod Changes
pub mod Plans
pub mod NewEvents
pub mod OwnRefusals
