-- Worked examples, as tables that a person can review.
pub mod Contexts
pub mod Exchanges
pub mod Descriptors
pub mod Events
pub mod Requests
pub mod Queues
pub mod Flaws
pub mod Tables
