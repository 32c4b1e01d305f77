-- Pieces in a row, and a prefix of them.
use Rattle.std.proofs.Common.{◌≡◌, ℕ, List, ◌++◌, take, drop, flat_map, ap, sym, ◌∙◌, Result, Ok, Err, IsErr}
use Rattle.std.proofs.lemmas.List.Concat.{flat_map-append}
use Rattle.std.proofs.Math.ListN.{take-append-drop}
use Rattle.tree_specs.specs.declared.memory.Memory.{Memory}
use Rattle.tree_specs.specs.Texts.Written.{Writes}

-- the pieces before this index are a prefix of all
pub pieces_before : {X : Type 0} (f : X → List ℕ) (pieces : List X) (i : ℕ) (old new : List ℕ) (r : Result (Unit {0}) Memory) → IsErr r → new ≡ old ++ flat_map f (take i pieces) → Writes old new r (flat_map f pieces)
pieces_before f pieces i old new (Ok done) failed written = absurd cc
pieces_before f pieces i old new (Err e) failed written = record {
  front = flat_map f (take i pieces);
  written = written;
  begins = record {
    rest = flat_map f (drop i pieces);
    whole = ap (flat_map f) (sym (take-append-drop i pieces)) ∙ flat_map-append f (take i pieces) (drop i pieces);
  };
}
