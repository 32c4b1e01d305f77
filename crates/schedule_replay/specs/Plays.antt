-- The lines of a schedule after its first one, run by a machine M; J is what they spell.
use Rattle.std.specs.Prelude.{◌≡◌, ℕ, ◌≤◌, List, ◌++◌, length, Option, Some, Result}
use Rattle.tree_specs.specs.declared.question.Ask.{Ask}
use Rattle.tree_specs.specs.declared.schedule.Reason.{Reason}
use Rattle.tree_specs.specs.Texts.Lines.{Line, line_limit}
use Rattle.tree_specs.specs.Texts.Text.{header}
use Rattle.tree_specs.specs.Texts.Written.{WritesFront}
use Rattle.line_pieces.specs.Takings.{TakesLine}
use Rattle.schedule_replay.specs.declared.play.Play.{Play}
use Rattle.schedule_replay.specs.declared.stop.Stop.{Stop}
use Rattle.schedule_replay.specs.declared.stop.Stop.TheVariants as errors
use Rattle.schedule_replay.specs.Questions.{end_of}
use Rattle.schedule_replay.specs.Replays.{Replayed, with_front, replayed_lines, StopsWith, EndsWith}
use Rattle.schedule_replay.specs.Standings.{Standing, runner_of, Waits}

-- what is replayed where these lines still come, the first with number n
abbrev pub comes : {M J : Type 0} → (List ℕ → Option J) → (Option Ask → J → Option Reason) → (M → Standing J) → Play M → ℕ → List Line → Replayed
comes reads misfit standing p n ls = with_front p.text.items (replayed_lines (runner_of reads misfit (standing p.machine)) n ls)

abbrev pub stops : {M : Type 0} → Stop → Play M → Replayed → Type 0
stops e p found = StopsWith e p.text.items found

abbrev pub ends : {M : Type 0} → Play M → Replayed → Type 0
ends p found = EndsWith p.text.items found

-- The transcript has begun, and the machine's first question is open.
pub record Begins {M J : Type 0} (reads : List ℕ → Option J) (misfit : Option Ask → J → Option Reason) (standing : M → Standing J) (m : M) (p : Play M) : Type 0 where
  pub waits : Waits (standing p.machine)
  pub goes_on : (n : ℕ) (ls : List Line) → with_front header (replayed_lines (runner_of reads misfit (standing m)) n ls) ≡ comes reads misfit standing p n ls

-- what a line spells was given, whichever line it was
abbrev pub GivesInput : {M J : Type 0} → (List ℕ → Option J) → (Option Ask → J → Option Reason) → (M → Standing J) → Play M → ℕ → J → Play M → Result (Unit {0}) Stop → Type 0
GivesInput reads misfit standing p n j q result =
    (text : List ℕ) → length text ≤ line_limit → reads text ≡ Some j → TakesLine (comes reads misfit standing) stops p n text q result

-- the line is refused, and the transcript ended by the question that is open
abbrev pub RefusesHere : ℕ → Reason → Option Ask → List ℕ → List ℕ → Stop → Type 0
RefusesHere line reason asked before after (errors.Refused n why) = (n ≡ line) × (why ≡ reason) × (after ≡ before ++ end_of asked)
RefusesHere line reason asked before after errors.Memory = WritesFront before after (end_of asked)
RefusesHere line reason asked before after errors.Read = ⊥
RefusesHere line reason asked before after errors.Write = ⊥
