-- What a schedule that is made while it is read still gives.
use Rattle.std.proofs.Common.{◌≡◌, ◌≤◌, ◌<◌, ℕ, zero, suc, ◌+◌, ◌-◌, Bool, false, List, [], ◌++◌, length, take, refl, sym, ap, ◌∙◌, codes, arith}
use Rattle.std.specs.Fmt.{digits}
use Rattle.std.proofs.Math.Seq.{take-append-add}
use Rattle.std.proofs.lemmas.List.{take-append-le, length-take-le}
use Rattle.tree_specs.specs.declared.schedule.Version.TheVariants.{One}
use Rattle.tree_specs.specs.declared.call.Call.{Call}
use Rattle.tree_specs.specs.declared.question.Input.TheVariants as inputs
use Rattle.tree_specs.specs.Texts.Text.{call_text, input_text}
use Rattle.tree_specs.specs.Texts.Load.{Place, call_drawn, after_call}
use Rattle.load_schedule.specs.Sources.{text_to_come}

pub last-text : (b : Bool) (left : ℕ) (p : Place) (bytes : List ℕ) → b ≡ false → left ≡ 0 → bytes ≡ codes "call count 0\n" → text_to_come b left p ≡ bytes ++ []
unfolding input_text call_text digits
last-text b left p bytes over none e = rw (over, none, e) refl

pub next-text : (b : Bool) (left : ℕ) (p q : Place) (bytes : List ℕ) → b ≡ false → 0 < left → bytes ≡ input_text One (inputs.Call (call_drawn p)) → q ≡ after_call p → text_to_come b left p ≡ bytes ++ text_to_come b (left - 1) q
next-text b zero p q bytes over some e same = absurd (omega arith)
next-text b (suc k) p q bytes over some e same = let less : suc k - 1 ≡ k = omega arith in rw (over, less, e, same) refl

pub line-some : (c : Call) → 0 < length (input_text One (inputs.Call c))
unfolding input_text
line-some c = omega arith

-- bytes at a part's front, behind those that were there
pub piece-front : (a n : ℕ) (xs ys post : List ℕ) → a ≤ length xs → n ≤ length ys → take (a + n) (take a xs ++ (ys ++ post)) ≡ take a xs ++ take n ys
piece-front a n xs ys post within le =
    ap (λ (m : ℕ). take (m + n) (take a xs ++ (ys ++ post))) (sym (length-take-le a xs within))
    ∙ take-append-add (take a xs) (ys ++ post) n ∙ ap (λ (t : List ℕ). take a xs ++ t) (take-append-le n ys post le)
