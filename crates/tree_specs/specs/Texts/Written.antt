-- What is written at the end of some bytes.
use Rattle.std.specs.Prelude.{◌≡◌, ℕ, List, ◌++◌, Result, Ok, Err}
use Rattle.tree_specs.specs.declared.memory.Memory.{Memory}

-- the list is the front of this text
pub record IsFront (front text : List ℕ) : Type 0 where
  pub rest : List ℕ
  pub whole : text ≡ front ++ rest

-- a prefix of the text was written
pub record WritesFront (old new text : List ℕ) : Type 0 where
  pub front : List ℕ
  pub written : new ≡ old ++ front
  pub begins : IsFront front text

-- the text was written; when memory runs out, a prefix of it
abbrev pub Writes : List ℕ → List ℕ → Result (Unit {0}) Memory → List ℕ → Type 0
Writes old new (Ok done) text = new ≡ old ++ text
Writes old new (Err e) text = WritesFront old new text
