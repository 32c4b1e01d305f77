-- The references to one object: what the list of the pairs says of them.
use Rattle.std.proofs.Common.{◌≡◌, ℕ, suc, ◌<◌, ◌≤◌, List, [], ◌∷◌, length, Some, None, true, false, nat_eq, refl, sym, ◌∙◌, ap, arith}
use Rattle.std.specs.Prelude.{nat_lt}
use Rattle.std.specs.Option.{option_map}
use Rattle.std.proofs.lemmas.Bool.{eqb-true, eq-eqb, ltb-true}
use Rattle.tree_specs.specs.declared.object.Obj.{Obj}
use Rattle.tree_specs.proofs.Tree.Numbered.{same-true}
use Rattle.linked_lanes.specs.Lane.{first, after, has, without as lane_without, Distinct}
use Rattle.linked_lanes.proofs.Lanes.{by_test, not_both, eqb-false, false_by, without-absent}
use Rattle.references.specs.declared.refs.Pair.{Pair}
use Rattle.references.specs.Pairs.{IsAbove, Descends, refs_to, first_to, target_of, next_to, first_below, count_to, without}
use Rattle.references.specs.Linked.{numbered, lane}
use Rattle.references.proofs.Finding.{above-without, above-same}
use Rattle.references.proofs.Order.{count-law, all-below, not-less}

-- one that is above all is none of them
pub above-lane : (ps : List Pair) (q : Obj) (t : ℕ) → IsAbove q ps → has (lane ps t) q.0 ≡ false
above-lane [] q t h = refl
above-lane (p ∷ ps) q t h =
    let n : nat_eq p.reference.0 q.0 ≡ false = eqb-false _ _ (λ e. absurd (let l = h.0 in omega (arith, e, l))) in
    by_test (nat_eq p.target.0 t) (λ u. rw (u, n) (above-lane ps q t h.1)) (λ u. rw u (above-lane ps q t h.1))

pub above-target : (ps : List Pair) (q : Obj) → IsAbove q ps → target_of ps q ≡ None
above-target [] q h = refl
above-target (p ∷ ps) q h =
    let n : nat_eq p.reference.0 q.0 ≡ false = eqb-false _ _ (λ e. absurd (let l = h.0 in omega (arith, e, l))) in
    rw n (above-target ps q h.1)

pub lane-distinct : (ps : List Pair) (t : ℕ) → Descends ps → Distinct (lane ps t)
lane-distinct [] t d = tt
lane-distinct (p ∷ ps) t d = by_test (nat_eq p.target.0 t)
    (λ u. rw u (above-lane ps p.reference t d.0, lane-distinct ps t d.1))
    (λ u. rw u (lane-distinct ps t d.1))

-- those among them have this target, and no others
pub lane-target : (ps : List Pair) (t k : ℕ) → Descends ps → has (lane ps t) k ≡ true → target_of ps (numbered k) ≡ Some (numbered t)
lane-target [] t k d m = not_both m refl
lane-target (p ∷ ps) t k d m = by_test (nat_eq p.reference.0 k)
    (λ a. rw a (by_test (nat_eq p.target.0 t)
    (λ u. ap Some (same-true p.target (numbered t) u))
    (λ u. let m' : has (lane ps t) k ≡ true = rw u at m in not_both m' (above-lane ps (numbered k) t (above-same ps p.reference (numbered k) (eqb-true p.reference.0 k a) d.0)))))
    (λ a. rw a (by_test (nat_eq p.target.0 t)
    (λ u. let m' : has (lane ps t) k ≡ true = rw (u, a) at m in lane-target ps t k d.1 m')
    (λ u. let m' : has (lane ps t) k ≡ true = rw u at m in lane-target ps t k d.1 m')))

pub target-lane : (ps : List Pair) (t k : ℕ) → target_of ps (numbered k) ≡ Some (numbered t) → has (lane ps t) k ≡ true
target-lane [] t k e = cc
target-lane (p ∷ ps) t k e = by_test (nat_eq p.reference.0 k)
    (λ a. let e' : Some p.target ≡ Some (numbered t) = rw a at e in
    let is : p.target ≡ numbered t = cc in
    let u : nat_eq p.target.0 t ≡ true = eq-eqb _ _ (ap (λ (x : Obj). x.0) is) in
    rw (u, a) refl)
    (λ a. let e' : target_of ps (numbered k) ≡ Some (numbered t) = rw a at e in by_test (nat_eq p.target.0 t)
    (λ u. rw (u, a) (target-lane ps t k e'))
    (λ u. rw u (target-lane ps t k e')))

pub lanes-apart : (ps : List Pair) (t s k : ℕ) → Descends ps → nat_eq t s ≡ false → has (lane ps s) k ≡ true → has (lane ps t) k ≡ false
lanes-apart ps t s k d n m = false_by _ (λ h.
    let e : Some (numbered t) ≡ Some (numbered s) = sym (lane-target ps t k d h) ∙ lane-target ps s k d m in
    let is : numbered t ≡ numbered s = cc in
    not_both (eq-eqb t s (ap (λ (x : Obj). x.0) is)) n)

pub lane-dropped : (ps : List Pair) (x t : ℕ) → Descends ps → lane (without ps (numbered x)) t ≡ lane_without (lane ps t) x
lane-dropped [] x t d = refl
lane-dropped (p ∷ ps) x t d = by_test (nat_eq p.reference.0 x)
    (λ a.
    let above = above-same ps p.reference (numbered x) (eqb-true p.reference.0 x a) d.0 in
    let rest : lane (without ps (numbered x)) t ≡ lane ps t = ap (λ l. lane l t) (above-without ps (numbered x) above) in
    rw a (rest ∙ by_test (nat_eq p.target.0 t)
    (λ u. rw (u, a) refl)
    (λ u. rw u (sym (without-absent (lane ps t) x (above-lane ps (numbered x) t above))))))
    (λ a. rw a (by_test (nat_eq p.target.0 t)
    (λ u. rw (u, a) (ap (λ l. p.reference.0 ∷ l) (lane-dropped ps x t d.1)))
    (λ u. rw u (lane-dropped ps x t d.1))))

pub few-lane : (ps : List Pair) (t : ℕ) → length (lane ps t) ≤ length ps
few-lane [] t = omega arith
few-lane (p ∷ ps) t = let ih = few-lane ps t in by_test (nat_eq p.target.0 t) (λ u. rw u (omega (arith, ih))) (λ u. rw u (omega (arith, ih)))

-- ---- the newest, how many, and the next

pub first-lane : (ps : List Pair) (t : ℕ) → option_map numbered (first (lane ps t)) ≡ first_to ps (numbered t)
first-lane [] t = refl
first-lane (p ∷ ps) t = by_test (nat_eq p.target.0 t) (λ u. rw u refl) (λ u. rw u (first-lane ps t))

length-lane : (ps : List Pair) (t : ℕ) → length (lane ps t) ≡ length (refs_to ps (numbered t))
length-lane [] t = refl
length-lane (p ∷ ps) t = by_test (nat_eq p.target.0 t) (λ u. rw u (ap suc (length-lane ps t))) (λ u. rw u (length-lane ps t))

pub count-lane : (ps : List Pair) (t : ℕ) → length (lane ps t) ≡ count_to ps (numbered t)
count-lane ps t = length-lane ps t ∙ sym (count-law ps (numbered t))

-- one among those that are below is below
member-below : (ps : List Pair) (q : Obj) (t x : ℕ) → IsAbove q ps → has (lane ps t) x ≡ true → x < q.0
member-below [] q t x h m = not_both m refl
member-below (p ∷ ps) q t x h m = by_test (nat_eq p.target.0 t)
    (λ u. by_test (nat_eq p.reference.0 x)
    (λ w. let e = eqb-true p.reference.0 x w in let l = h.0 in omega (arith, e, l))
    (λ w. let m' : has (lane ps t) x ≡ true = rw (u, w) at m in member-below ps q t x h.1 m'))
    (λ u. let m' : has (lane ps t) x ≡ true = rw u at m in member-below ps q t x h.1 m')

after-lane : (ps : List Pair) (t x : ℕ) → Descends ps → has (lane ps t) x ≡ true → option_map numbered (after (lane ps t) x) ≡ first_below ps (numbered x) (Some (numbered t))
after-lane [] t x d m = not_both m refl
after-lane (p ∷ ps) t x d m = by_test (nat_eq p.target.0 t)
    (λ u. by_test (nat_eq p.reference.0 x)
    (λ w.
    let e = eqb-true p.reference.0 x w in
    let n : nat_lt p.reference.0 x ≡ false = false_by _ (λ z. let l = ltb-true p.reference.0 x z in absurd (omega (arith, e, l))) in
    rw (u, w, n) (first-lane ps t ∙ sym (all-below ps (numbered x) (numbered t) (above-same ps p.reference (numbered x) e d.0))))
    (λ w.
    let m' : has (lane ps t) x ≡ true = rw (u, w) at m in
    let n : nat_lt p.reference.0 x ≡ false = not-less p.reference.0 x (member-below ps p.reference t x d.0 m') in
    rw (u, w, n) (after-lane ps t x d.1 m')))
    (λ u. let m' : has (lane ps t) x ≡ true = rw u at m in rw u (after-lane ps t x d.1 m'))

pub next-lane : (ps : List Pair) (t x : ℕ) → Descends ps → target_of ps (numbered x) ≡ Some (numbered t) → option_map numbered (after (lane ps t) x) ≡ next_to ps (numbered x)
next-lane ps t x d e = after-lane ps t x d (target-lane ps t x e) ∙ sym (ap (first_below ps (numbered x)) e)
