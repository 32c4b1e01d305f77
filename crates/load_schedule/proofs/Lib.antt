pub mod Bare
pub mod Silent
pub mod Taken
pub mod TallyLaws
pub mod CallLines
pub mod SourceLaws
pub mod LoadLaws
