pub mod Statuses
pub mod Audits
pub mod Mains
pub mod Serves
