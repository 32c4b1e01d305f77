-- The tree: rows of objects, who owns whom, what is inside an owner and what it sums to.
pub mod Pool
pub mod Targets
pub mod Inside
pub mod Sums
pub mod Forest
pub mod Heirs
pub mod Reports
pub mod Walks
