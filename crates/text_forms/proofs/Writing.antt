-- Texts that are written one after the other.
use Rattle.std.proofs.Common.{◌≡◌, ℕ, suc, ◌<◌, List, [], ◌++◌, length, take, drop, get_or, flat_map, refl, sym, ap, ◌∙◌, append_assoc, append-nil, Result, Ok, Err, IsErr}
use Rattle.std.proofs.lemmas.List.Concat.{flat_map-append}
use Rattle.std.proofs.Math.ListN.{take-append-drop}
use Rattle.std.proofs.Math.Seq.{drop-cons}
use Rattle.tree_specs.specs.declared.memory.Memory.{Memory}
use Rattle.tree_specs.specs.Texts.Written.{Writes, WritesFront}

-- a text, and then what follows it
pub then_writes : (old mid new s t text : List ℕ) (r : Result (Unit {0}) Memory) → mid ≡ old ++ s → Writes mid new r t → text ≡ s ++ t → Writes old new r text
then_writes old mid new s t text (Ok done) before after whole =
    after ∙ ap (λ l. l ++ t) before ∙ append_assoc old s t ∙ ap (λ l. old ++ l) (sym whole)
then_writes old mid new s t text (Err e) before after whole = record {
  front = s ++ after.front;
  written = after.written ∙ ap (λ l. l ++ after.front) before ∙ append_assoc old s after.front;
  begins = record {
    rest = after.begins.rest;
    whole = whole ∙ ap (λ l. s ++ l) after.begins.whole ∙ sym (append_assoc s after.front after.begins.rest);
  };
}

-- what fails in a text fails in the texts that begin with it
pub then_fails : (old new s t text : List ℕ) (r : Result (Unit {0}) Memory) → WritesFront old new s → IsErr r → text ≡ s ++ t → Writes old new r text
then_fails old new s t text (Ok done) before failed whole = absurd cc
then_fails old new s t text (Err f) before failed whole = record {
  front = before.front;
  written = before.written;
  begins = record {
    rest = before.begins.rest ++ t;
    whole = whole ∙ ap (λ l. l ++ t) before.begins.whole ∙ append_assoc before.front before.begins.rest t;
  };
}

-- a text of which this much was written
pub so_far : (old new text : List ℕ) (i : ℕ) (r : Result (Unit {0}) Memory) → new ≡ old ++ take i text → IsErr r → Writes old new r text
so_far old new text i r before failed =
    let whole : WritesFront old new (take i text) = record { front = take i text; written = before; begins = record { rest = []; whole = sym (append-nil (take i text)) } } in
    then_fails old new (take i text) (drop i text) text r whole failed (sym (take-append-drop i text))

-- a text of which nothing was written
pub nothing_written : (old new text : List ℕ) (r : Result (Unit {0}) Memory) → new ≡ old → IsErr r → Writes old new r text
nothing_written old new text (Ok done) same failed = absurd cc
nothing_written old new text (Err e) same failed = record {
  front = [];
  written = same ∙ sym (append-nil old);
  begins = record { rest = text; whole = refl };
}

-- each value's text in turn, up to this index, in whose text memory ran out
pub in_each : {X : Type 0} (f : X → List ℕ) (d : X) (old mid new : List ℕ) (xs : List X) (i : ℕ) (r : Result (Unit {0}) Memory) → i < length xs → mid ≡ old ++ flat_map f (take i xs) → WritesFront mid new (f (get_or xs i d)) → IsErr r → Writes old new r (flat_map f xs)
in_each f d old mid new xs i r lt before front failed =
    then_writes old mid new (flat_map f (take i xs)) (flat_map f (drop i xs)) (flat_map f xs) r before
    (then_fails mid new (f (get_or xs i d)) (flat_map f (drop (suc i) xs)) (flat_map f (drop i xs)) r front failed
    (ap (flat_map f) (drop-cons xs i d lt)))
    (ap (flat_map f) (sym (take-append-drop i xs)) ∙ flat_map-append f (take i xs) (drop i xs))
