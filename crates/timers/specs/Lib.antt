pub mod Timetable
pub mod Changes
pub mod Heaped
pub mod Heaps
