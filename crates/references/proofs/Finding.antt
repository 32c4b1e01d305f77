-- What is left without a reference.
use Rattle.std.proofs.Common.{◌≡◌, ◌<◌, ◌≤◌, List, [], ◌∷◌, length, Some, None, Bool, refl, ap, arith}
use Rattle.std.specs.Prelude.{not}
use Rattle.std.specs.List.{filter}
use Rattle.std.proofs.lemmas.Bool.{eqb-true}
use Rattle.tree_specs.specs.declared.object.Obj.{Obj}
use Rattle.tree_specs.specs.Words.Objects.{same}
use Rattle.tree_specs.proofs.Tree.Numbered.{by_test}
use Rattle.references.specs.declared.refs.Pair.{Pair}
use Rattle.references.specs.Pairs.{IsAbove, Descends, ArePairs, target_of, without}

-- a reference whose number is above all others is none of them
pub above-without : (ps : List Pair) (r : Obj) → IsAbove r ps → without ps r ≡ ps
above-without [] r h = refl
above-without (p ∷ ps) r h = by_test (same p.reference r)
    (λ t. let e : p.reference.0 ≡ r.0 = eqb-true p.reference.0 r.0 t in let l : p.reference.0 < r.0 = h.0 in absurd (omega (arith, e)))
    (λ t. rw t (ap (λ (l : List Pair). p ∷ l) (above-without ps r h.1)))

-- one that is none of them
pub without-none : (ps : List Pair) (r : Obj) → target_of ps r ≡ None → without ps r ≡ ps
without-none [] r h = refl
without-none (p ∷ ps) r h = by_test (same p.reference r)
    (λ t. let bad : Some p.target ≡ None = rw t at h in cc)
    (λ t. let h' : target_of ps r ≡ None = rw t at h in rw t (ap (λ (l : List Pair). p ∷ l) (without-none ps r h')))

-- what is above those stays so when it is greater
pub above-more : (ps : List Pair) (q r : Obj) → q.0 ≤ r.0 → IsAbove q ps → IsAbove r ps
above-more [] q r l h = tt
above-more (p ∷ ps) q r l h = let m : p.reference.0 < q.0 = h.0 in (omega (arith, l, m), above-more ps q r l h.1)

pub above-same : (ps : List Pair) (q r : Obj) → q.0 ≡ r.0 → IsAbove q ps → IsAbove r ps
above-same ps q r e h = above-more ps q r (omega (arith, e)) h

-- ---- what is left descends too

above-filter : (ps : List Pair) (q : Pair → Bool) (r : Obj) → IsAbove r ps → IsAbove r (filter q ps)
above-filter [] q r h = tt
above-filter (p ∷ ps) q r h = by_test (q p) (λ t. rw t (h.0, above-filter ps q r h.1)) (λ t. rw t (above-filter ps q r h.1))

descends-filter : (ps : List Pair) (q : Pair → Bool) → Descends ps → Descends (filter q ps)
descends-filter [] q h = tt
descends-filter (p ∷ ps) q h = by_test (q p) (λ t. rw t (above-filter ps q p.reference h.0, descends-filter ps q h.1)) (λ t. rw t (descends-filter ps q h.1))

pub descends-without : (ps : List Pair) (r : Obj) → Descends ps → Descends (without ps r)
descends-without ps r h = descends-filter ps (λ p. not (same p.reference r)) h

fewer : (ps : List Pair) (q : Pair → Bool) → length (filter q ps) ≤ length ps
fewer [] q = omega arith
fewer (p ∷ ps) q = let ih = fewer ps q in by_test (q p) (λ t. rw t (omega (arith, ih))) (λ t. rw t (omega (arith, ih)))

pub without-pairs : (ps : List Pair) (r : Obj) → ArePairs ps → ArePairs (without ps r)
without-pairs ps r h = record { descends = descends-without ps r h.descends; few = omega (arith, fewer ps (λ p. not (same p.reference r)), h.few) }
