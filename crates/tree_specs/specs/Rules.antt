-- The rules of freeing, destructors and calls as recursive text, and the story that they tell.
pub mod Answers
pub mod Errands
pub mod Items
pub mod Sequence
pub mod Pieces
pub mod Story
