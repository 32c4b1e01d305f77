-- What a machine is to whoever runs the lines of a schedule by it. J is what lines spell.
use Rattle.std.specs.Prelude.{◌≡◌, ℕ, List, [], ◌∷◌, ◌++◌, Option, Some, None, Result, Ok, Err}
use Rattle.tree_specs.specs.declared.memory.Memory.{Memory}
use Rattle.tree_specs.specs.declared.question.Ask.{Ask}
use Rattle.tree_specs.specs.declared.schedule.Reason.{Reason}
use Rattle.tree_specs.specs.Texts.Runners.{Course, Runner, once_given, unless_stray}
use Rattle.tree_specs.specs.Texts.Text.{end_text}
use Rattle.schedule_replay.specs.Questions.{answered_of}
use Rattle.schedule_replay.specs.Replays.{behind, BeginsText}

pub record Standing (J : Type 0) : Type 0 where
  -- the open question
  pub asked : Option Ask
  -- what comes of further inputs
  pub course : Course J
  -- the text of what is told over these inputs, up to the question that is open then; none where no question is
  pub tells : List J → Option (List ℕ)

module _ {J : Type 0} where
  abbrev pub runner_of : (List ℕ → Option J) → (Option Ask → J → Option Reason) → Standing J → Runner J
  runner_of reads misfit s = record { reads = reads; misfit = misfit; course = s.course; told = s.tells }

  -- A question is open, and it is all of the text where no input comes.
  pub record Waits (s : Standing J) : Type 0 where
    pub question : Ask
    pub asked_now : s.asked ≡ Some question
    pub open_now : s.course.open_after [] ≡ Some question
    pub last : s.tells [] ≡ Some (end_text question)

  -- This text comes first, and then what comes of the other.
  pub record Follows (text : List ℕ) (s t : Standing J) : Type 0 where
    pub tells : (js : List J) → s.tells js ≡ behind text (t.tells js)
    pub open_after : (js : List J) → s.course.open_after js ≡ t.course.open_after js
    pub strays : (js : List J) → s.course.strays js ≡ t.course.strays js

  -- where this input comes first
  abbrev pub once : J → Standing J → Standing J
  once j s = record { asked = s.asked; course = once_given j s.course; tells = λ js. s.tells (j ∷ js) }

  -- why an input isn't taken
  abbrev pub unfit : (Option Ask → J → Option Reason) → Standing J → J → Option Reason
  unfit misfit s j = unless_stray (misfit (s.course.open_after []) j) (s.course.strays (j ∷ []))

  -- The input fits and was taken, and so the question is answered.
  pub record TakesInput (misfit : Option Ask → J → Option Reason) (s : Standing J) (j : J) (t : Standing J) : Type 0 where
    pub fits : unfit misfit s j ≡ None
    pub follows : Follows (answered_of s.asked) (once j s) t

  -- It was taken, and this was appended of what comes of it.
  pub record TakesAtOnce (misfit : Option Ask → J → Option Reason) (s : Standing J) (j : J) (before : List ℕ) (t : Standing J) (after : List ℕ) : Type 0 where
    pub written : List ℕ
    pub text : after ≡ before ++ written
    pub fits : unfit misfit s j ≡ None
    pub follows : Follows written (once j s) t

  -- It was taken, or nothing has changed and it is left.
  abbrev pub TriesInput : (Option Ask → J → Option Reason) → Standing J → J → List ℕ → Option J → Standing J → List ℕ → Type 0
  TriesInput misfit s j before None t after = TakesAtOnce misfit s j before t after
  TriesInput misfit s j before (Some left) t after = (left ≡ j) × (t ≡ s) × (after ≡ before)

  -- Something was told, or a question is open, or what comes is the same.
  abbrev pub Nexts : {T : Type 0} → (T → List ℕ) → Result (Option T) Memory → Standing J → Standing J → Type 0
  Nexts text_of (Ok (Some told)) s t = Follows (text_of told) s t
  Nexts text_of (Ok None) s t = Follows [] s t × Waits t
  Nexts text_of (Err e) s t = Follows [] s t

  -- All up to the next question was told and written.
  pub record TellsAll (s : Standing J) (before : List ℕ) (t : Standing J) (after : List ℕ) : Type 0 where
    pub written : List ℕ
    pub text : after ≡ before ++ written
    pub follows : Follows written s t
    pub waits : Waits t

  -- A prefix of it was written.
  pub record TellsFront (s : Standing J) (before after : List ℕ) : Type 0 where
    pub written : List ℕ
    pub text : after ≡ before ++ written
    pub begins : (js : List J) → BeginsText written (s.tells js)

  abbrev pub Tells : Standing J → List ℕ → Standing J → List ℕ → Result (Unit {0}) Memory → Type 0
  Tells s before t after (Ok done) = TellsAll s before t after
  Tells s before t after (Err e) = TellsFront s before after
