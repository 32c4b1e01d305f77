-- Texts behind texts.
use Rattle.std.proofs.Common.{◌≡◌, ℕ, List, [], ◌∷◌, ◌++◌, take, drop, length, Option, Some, None, refl, sym, ap, ◌∙◌, append_assoc}
use Rattle.std.proofs.lemmas.List.{take-append-drop}
use Rattle.tree_specs.specs.Texts.Written.{IsFront}
use Rattle.schedule_replay.specs.Replays.{Replayed, behind, with_front, BeginsText}

pub behind-behind : (x y : List ℕ) (o : Option (List ℕ)) → behind x (behind y o) ≡ behind (x ++ y) o
behind-behind x y None = refl
behind-behind x y (Some text) = ap (λ (t : List ℕ). Some t) (sym (append_assoc x y text))

pub behind-nil : (o : Option (List ℕ)) → o ≡ behind [] o
behind-nil None = refl
behind-nil (Some text) = refl

pub begins_nil : (o : Option (List ℕ)) → BeginsText [] o
begins_nil None = tt
begins_nil (Some text) = (text, refl)

pub begins_behind : (x y : List ℕ) (o : Option (List ℕ)) → BeginsText y o → BeginsText (x ++ y) (behind x o)
begins_behind x y None h = tt
begins_behind x y (Some text) h = (h.0, rw h.1 (sym (append_assoc x y h.0)))

-- a prefix of a text begins what the text begins
pub begins_front : (front text : List ℕ) (o : Option (List ℕ)) → IsFront front text → BeginsText front (behind text o)
begins_front front text None f = tt
begins_front front text (Some more) f = (f.rest ++ more, ap (λ (t : List ℕ). t ++ more) f.whole ∙ append_assoc front f.rest more)

pub begins_it : (text : List ℕ) (o : Option (List ℕ)) → BeginsText text (behind text o)
begins_it text None = tt
begins_it text (Some more) = (more, refl)

-- a prefix of a text that begins another begins it too
pub begins_less : (n : ℕ) (x : List ℕ) (o : Option (List ℕ)) → BeginsText x o → BeginsText (take n x) o
begins_less n x None h = tt
begins_less n x (Some text) h = (drop n x ++ h.0, h.1 ∙ ap (λ (l : List ℕ). l ++ h.0) (sym (take-append-drop n x)) ∙ append_assoc (take n x) (drop n x) h.0)

-- ---- texts in front of replays

pub front-nil : (r : Replayed) → r ≡ with_front [] r
front-nil r = ap (λ (t : Option (List ℕ)). let z : Replayed = record { text = t; refused = r.refused } in z) (behind-nil r.text)

pub front-front : (x y : List ℕ) (r : Replayed) → with_front x (with_front y r) ≡ with_front (x ++ y) r
front-front x y r = ap (λ (t : Option (List ℕ)). let z : Replayed = record { text = t; refused = r.refused } in z) (behind-behind x y r.text)

-- ---- what was written is taken back

take-front : (xs ys : List ℕ) → take (length xs) (xs ++ ys) ≡ xs
take-front [] ys = refl
take-front (x ∷ xs) ys = ap (λ (l : List ℕ). x ∷ l) (take-front xs ys)

pub taken-back : (old asked now : List ℕ) (n : ℕ) → n ≡ length old → now ≡ old ++ asked → take n now ≡ old
taken-back old asked now n e written = rw (e, written) (take-front old asked)
