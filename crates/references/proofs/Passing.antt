-- The first of the references to an object that passes, by a walk over them.
use Rattle.std.proofs.Common.{◌≡◌, ℕ, suc, zero, ◌-◌, ◌<◌, ◌≤◌, List, [], ◌∷◌, ◌++◌, length, Option, Some, None, Bool, true, false, refl, sym, ◌∙◌, ap, arith, append_assoc}
use Rattle.std.specs.Prelude.{slice_get, ◌&&◌, if◌then◌else◌}
use Rattle.std.specs.List.{find}
use Rattle.std.specs.Option.{option_map}
use Rattle.tree_specs.specs.declared.object.Obj.{Obj}
use Rattle.tree_specs.specs.Words.Objects.{same}
use Rattle.tree_specs.proofs.Tree.Numbered.{by_test}
use Rattle.references.specs.declared.refs.Pair.{Pair}
use Rattle.references.specs.Pairs.{Descends, refs_to, first_to, next_to, count_to}
use Rattle.references.specs.Linked.{first_passing}
use Rattle.references.proofs.Order.{first-law, count-law, next-law}

first_in : (Obj → Bool) → List Obj → Option Obj
first_in q [] = None
first_in q (r ∷ rs) = if q r then Some r else first_in q rs

walked : (q : Obj → Bool) (ps : List Pair) (x : Obj) (before rest : List Obj) → Descends ps → refs_to ps x ≡ before ++ rest → first_passing q ps (length rest) (slice_get rest 0) ≡ first_in q rest
unfolding first_in
walked q ps x before [] d e = refl
walked q ps x before (r ∷ rest) d e =
    let n : next_to ps r ≡ slice_get rest 0 = next-law ps x r before rest d e in
    by_test (q r)
    (λ t. rw t refl)
    (λ t. rw t (ap (first_passing q ps (length rest)) n ∙ walked q ps x (before ++ r ∷ []) rest d (e ∙ sym (append_assoc before (r ∷ []) rest))))

found : (q : Obj → Bool) (ps : List Pair) (x : Obj) → option_map (λ (p : Pair). p.reference) (find (λ p. same p.target x && q p.reference) ps) ≡ first_in q (refs_to ps x)
unfolding first_in
found q [] x = refl
found q (p ∷ ps) x = by_test (same p.target x)
    (λ t. by_test (q p.reference) (λ u. rw (t, u) refl) (λ u. rw (t, u) (found q ps x)))
    (λ t. rw t (found q ps x))

pub passes-first : (q : Obj → Bool) (ps : List Pair) (x : Obj) → Descends ps → first_passing q ps (count_to ps x) (first_to ps x) ≡ option_map (λ (p : Pair). p.reference) (find (λ p. same p.target x && q p.reference) ps)
passes-first q ps x d =
    (λ i. first_passing q ps (count-law ps x i) (first-law ps x i)) ∙ walked q ps x [] (refs_to ps x) d refl ∙ sym (found q ps x)

pub passes-none : (q : Obj → Bool) (ps : List Pair) (n : ℕ) (at : Option Obj) → at ≡ None → first_passing q ps n at ≡ None
passes-none q ps zero at e = refl
passes-none q ps (suc n) at e = ap (first_passing q ps (suc n)) e

pub passes-end : (q : Obj → Bool) (ps : List Pair) (n : ℕ) (at : Option Obj) → n ≤ 0 → first_passing q ps n at ≡ None
passes-end q ps zero at l = refl
passes-end q ps (suc n) at l = absurd (omega arith)

pub passes-here : (q : Obj → Bool) (ps : List Pair) (n : ℕ) (at : Option Obj) (r : Obj) → 0 < n → at ≡ Some r → q r ≡ true → first_passing q ps n at ≡ Some r
passes-here q ps zero at r l e t = absurd (omega arith)
passes-here q ps (suc n) at r l e t = ap (first_passing q ps (suc n)) e ∙ rw t refl

pub passes-later : (q : Obj → Bool) (ps : List Pair) (n : ℕ) (at : Option Obj) (r : Obj) → 0 < n → at ≡ Some r → q r ≡ false → first_passing q ps n at ≡ first_passing q ps (n - 1) (next_to ps r)
passes-later q ps zero at r l e t = absurd (omega arith)
passes-later q ps (suc n) at r l e t =
    let one : suc n - 1 ≡ n = omega arith in
    ap (first_passing q ps (suc n)) e ∙ rw t (ap (λ k. first_passing q ps k (next_to ps r)) (sym one))
