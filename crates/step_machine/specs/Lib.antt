pub mod History
pub mod Machine
pub mod Noted
pub mod Open
