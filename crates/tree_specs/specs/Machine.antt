-- The same rules as tables of single steps, for open works that stand on each other.
pub mod Table
pub mod Profiles
pub mod View
pub mod FreeTable
pub mod Meaning
