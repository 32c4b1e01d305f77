-- What contracts see of the ends in memory.
use Rattle.std.specs.Prelude.{ℕ, List, [], Some}
use Rattle.tree_specs.specs.declared.moment.Moment.{Moment}
use Rattle.tree_specs.specs.declared.question.Act.{Act}
use Rattle.tree_specs.specs.declared.question.Input.{Input}
use Rattle.outside.specs.Notes.{Noted}
use Rattle.outside.specs.Pacings.{Pacing, new_pacing}

-- a source in memory: the bytes that are left, and how it goes
pub record PacedSource : Type 0 where
  pub left : List ℕ
  pub pace : Pacing

-- a store in memory: the bytes that it holds, and for how many more it has memory
pub record Store : Type 0 where
  pub held : List ℕ
  pub room : ℕ

-- a sink in memory: what it holds, and how it goes
pub record PacedSink : Type 0 where
  pub store : Store
  pub pace : Pacing

-- a link in memory
pub record LinkInMemory : Type 0 where
  -- the answers that are left
  pub answers : List Input
  -- how its listening and waiting goes
  pub pace : Pacing
  -- the descriptors that are open
  pub fds : List ℕ
  pub noted : Noted

-- a link before its first call, with room for so many calls and so many bytes of writes
abbrev pub new_link : List Input → List ℕ → ℕ → ℕ → LinkInMemory
new_link answers fails calls written = record {
  answers = answers;
  pace = new_pacing 1 fails;
  fds = [];
  noted = record { told = Some []; calls_left = calls; bytes_left = written };
}

-- routines in memory: the acts that are left, and the moments at which acts were given
pub record PreparedActs : Type 0 where
  pub acts : List Act
  pub told : List (Moment × Act)
