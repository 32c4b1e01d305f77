-- What runs the lines of a schedule: the first line that is refused, the inputs before it, and the transcript that they give.
-- The walk over the lines is one, whatever runs them.
use Rattle.std.specs.Prelude.{ℕ, ◌+◌, Bool, true, false, if◌then◌else◌, List, [], ◌∷◌, ◌++◌, Option, Some, None, Result, Ok, Err}
use Rattle.std.specs.Option.{option_map}
use Rattle.tree_specs.specs.declared.question.Ask.{Ask}
use Rattle.tree_specs.specs.declared.schedule.Reason.{Reason}
use Rattle.tree_specs.specs.declared.schedule.Reason.TheVariants.{Limit, Form, Token}
use Rattle.tree_specs.specs.Texts.Lines.{Line, is_over_limit}
use Rattle.tree_specs.specs.Texts.Text.{header}

-- ---- what runs lines: J are the inputs that lines spell

-- what comes of further inputs: the question that is open after them, and whether the last of them doesn't fit it
pub record Course (J : Type 0) : Type 0 where
  pub open_after : List J → Option Ask
  pub strays : List J → Bool

pub record Runner (J : Type 0) : Type 0 where
  -- the input that a line spells, the line without its LF
  pub reads : List ℕ → Option J
  -- why an input is no answer to the open question
  pub misfit : Option Ask → J → Option Reason
  pub course : Course J
  -- the text of what is told over these inputs, up to the question that is open then; none where no question is
  pub told : List J → Option (List ℕ)

pub record Judged (J : Type 0) : Type 0 where
  -- the inputs of the lines before the first refused one, or of all lines
  pub inputs : List J
  -- its number, from 1, and the reason
  pub refused : Option (ℕ × Reason)

-- an input that is an answer to the open question, and yet doesn't fit: a descriptor was accepted that is open already
abbrev pub unless_stray : Option Reason → Bool → Option Reason
unless_stray (Some why) stray = Some why
unless_stray None true = Some Token
unless_stray None false = None

abbrev pub header_reason : Line → Reason
header_reason line = if is_over_limit 1 line then Limit else Form

module _ {J : Type 0} where
  -- ---- a line

  -- what comes after this input
  abbrev pub once_given : J → Course J → Course J
  once_given j c = record { open_after = λ js. c.open_after (j ∷ js); strays = λ js. c.strays (j ∷ js) }

  abbrev pub why_not : Runner J → Course J → J → Option Reason
  why_not r c j = unless_stray (r.misfit (c.open_after []) j) (c.strays (j ∷ []))

  abbrev pub ok_unless : J → Option Reason → Result J Reason
  ok_unless j None = Ok j
  ok_unless j (Some why) = Err why

  abbrev pub fitting : Runner J → Course J → Option J → Result J Reason
  fitting r c None = Err Form
  fitting r c (Some j) = ok_unless j (why_not r c j)

  -- the input of line n
  unfoldable pub line_input : Runner J → ℕ → Course J → Line → Result J Reason
  line_input r n c line =
      if is_over_limit n line then Err Limit else
      if line.ended then fitting r c (r.reads line.text) else Err Form

  -- ---- the lines from number n on

  abbrev pub judged_one : ℕ → Result J Reason → (J → Judged J) → Judged J
  judged_one n (Ok j) next = record { inputs = j ∷ (next j).inputs; refused = (next j).refused }
  judged_one n (Err why) next = record { inputs = []; refused = Some (n, why) }

  unfoldable pub judged_from : Runner J → Course J → ℕ → List Line → Judged J
  judged_from r c n [] = record { inputs = []; refused = None }
  judged_from r c n (line ∷ rest) = judged_one n (line_input r n c line) (λ j. judged_from r (once_given j c) (n + 1) rest)

-- ---- all lines. The first one is the header, which says what runs the others; nothing does where it is no header.

module _ {J : Type 0} (runs : List ℕ → Option (Runner J)) where
  abbrev pub runner_after : Line → Option (Runner J)
  runner_after first = if first.ended then runs first.text else None

  abbrev pub judged_after : Line → List Line → Option (Runner J) → Judged J
  judged_after first rest None = record { inputs = []; refused = Some (1, header_reason first) }
  judged_after first rest (Some r) = judged_from r r.course 2 rest

  unfoldable pub judged_lines : List Line → Judged J
  judged_lines [] = record { inputs = []; refused = Some (1, Form) }
  judged_lines (first ∷ rest) = judged_after first rest (runner_after first)

  -- the transcript over these inputs; no bytes where nothing runs them
  abbrev pub transcript_by : Option (Runner J) → List J → Option (List ℕ)
  transcript_by None js = Some []
  transcript_by (Some r) js = option_map (λ text. header ++ text) (r.told js)

  unfoldable pub transcript_lines : List Line → Option (List ℕ)
  transcript_lines [] = Some []
  transcript_lines (first ∷ rest) = transcript_by (runner_after first) (judged_lines (first ∷ rest)).inputs
