-- The machine tells what the text of the rules tells, and what that text answers.
pub mod MeansFrees
pub mod Means
pub mod Rest
pub mod LettingGo
pub mod FreeCauses
pub mod Lawful
pub mod TurnLaws
pub mod RequestLaws
pub mod TextLaws
pub mod IdleTurns
pub mod StoryLaws
pub mod MidStories
