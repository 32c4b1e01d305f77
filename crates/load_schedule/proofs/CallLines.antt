-- The lines of the calls that are drawn, as they are written.
use Rattle.std.proofs.Common.{◌≡◌, ℕ, zero, suc, ◌+◌, ◌%◌, List, [], ◌∷◌, ◌++◌, refl, sym, ap, ◌∙◌, codes}
use Rattle.std.specs.Fmt.{decimal}
use Rattle.std.proofs.lemmas.List.{append-nil, append_assoc}
use Rattle.std.proofs.Common.{true, ltb}
use Rattle.tree_specs.specs.declared.schedule.Version.TheVariants.{One}
use Rattle.tree_specs.specs.declared.question.Input.TheVariants as inputs
use Rattle.tree_specs.specs.Words.Objects.{owner_number, numbered_owner}
use Rattle.tree_specs.specs.Texts.Text.{call_text, input_text, newline}
use Rattle.tree_specs.specs.Texts.Load.{Place, kind, second_draw, third_draw, call_drawn}

-- a number that is drawn among so many
abbrev pub owner_digits : Place → List ℕ
owner_digits p = decimal (second_draw p % (p.made + 1))

abbrev pub object_digits : Place → List ℕ
object_digits p = decimal (1 + third_draw p % (p.made + 1))

owner-again : (n : ℕ) → owner_number (numbered_owner n) ≡ n
owner-again zero = refl
owner-again (suc n) = refl

two-numbers : (d e : List ℕ) → d ++ 32 ∷ (e ++ []) ++ newline ≡ d ++ codes " " ++ e ++ codes "\n"
two-numbers d e = rw (append-nil e) (append_assoc d (32 ∷ e) newline ∙ sym (append_assoc (d ++ codes " ") e newline ∙ append_assoc d (codes " ") (e ++ newline)))

one-number : (d : List ℕ) → d ++ [] ++ newline ≡ d ++ codes "\n"
one-number d = rw (append-nil d) refl

with-name : (d e : List ℕ) → d ++ 32 ∷ (e ++ 32 ∷ 110 ∷ []) ++ newline ≡ d ++ codes " " ++ e ++ codes " n\n"
with-name d e = append_assoc d (32 ∷ (e ++ 32 ∷ 110 ∷ [])) newline ∙ ap (λ (t : List ℕ). d ++ 32 ∷ t) (append_assoc e (32 ∷ 110 ∷ []) newline) ∙ sym (append_assoc (d ++ codes " ") e (codes " n\n") ∙ append_assoc d (codes " ") (e ++ codes " n\n"))

pub line-of-new : (p : Place) → ltb (kind p) 4 ≡ true → input_text One (inputs.Call (call_drawn p)) ≡ codes "call new " ++ owner_digits p ++ codes " " ++ decimal (third_draw p % 1000) ++ codes " n\n"
unfolding input_text call_text
line-of-new p k = rw (k, owner-again (second_draw p % (p.made + 1))) (ap (λ (t : List ℕ). codes "call new " ++ t) (with-name (owner_digits p) (decimal (third_draw p % 1000))))

pub line-of-steal : (p : Place) → kind p ≡ 4 → input_text One (inputs.Call (call_drawn p)) ≡ codes "call steal " ++ owner_digits p ++ codes " " ++ object_digits p ++ codes "\n"
unfolding input_text call_text
line-of-steal p k = rw (k, owner-again (second_draw p % (p.made + 1))) (ap (λ (t : List ℕ). codes "call steal " ++ t) (two-numbers (owner_digits p) (object_digits p)))

pub line-of-free : (p : Place) → kind p ≡ 5 → input_text One (inputs.Call (call_drawn p)) ≡ codes "call free " ++ object_digits p ++ codes "\n"
unfolding input_text call_text
line-of-free p k = rw k (ap (λ (t : List ℕ). codes "call free " ++ t) (one-number (object_digits p)))

pub line-of-reference : (p : Place) → kind p ≡ 6 → input_text One (inputs.Call (call_drawn p)) ≡ codes "call reference " ++ owner_digits p ++ codes " " ++ object_digits p ++ codes "\n"
unfolding input_text call_text
line-of-reference p k = rw (k, owner-again (second_draw p % (p.made + 1))) (ap (λ (t : List ℕ). codes "call reference " ++ t) (two-numbers (owner_digits p) (object_digits p)))

pub line-of-unlink : (p : Place) → kind p ≡ 7 → input_text One (inputs.Call (call_drawn p)) ≡ codes "call unlink " ++ owner_digits p ++ codes " " ++ object_digits p ++ codes "\n"
unfolding input_text call_text
line-of-unlink p k = rw (k, owner-again (second_draw p % (p.made + 1))) (ap (λ (t : List ℕ). codes "call unlink " ++ t) (two-numbers (owner_digits p) (object_digits p)))
