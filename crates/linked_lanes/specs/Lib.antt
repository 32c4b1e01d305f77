pub mod Lane
pub mod Chain
pub mod Family
