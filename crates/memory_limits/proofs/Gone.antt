-- What is kept where an object is no more.
use Rattle.std.proofs.Common.{◌≡◌, ◌≢◌, ℕ, List, [], ◌∷◌, Option, Some, None, true, false, if◌then◌else◌, refl, sym, ◌∙◌, ap, inl, inr, arith}
use Rattle.tree_specs.specs.declared.object.Obj.{Obj}
use Rattle.tree_specs.specs.declared.object.Owner.{Owner}
use Rattle.tree_specs.specs.declared.object.Owner.TheVariants.{Of}
use Rattle.tree_specs.specs.declared.row.Row.{Row}
use Rattle.tree_specs.specs.Words.Objects.{same}
use Rattle.tree_specs.specs.Tree.Pool.{row_of, is_row, owner_of, target_in, target_at, is_inside, changed, without, left_row}
use Rattle.tree_specs.specs.Tree.Forest.{IsForest}
use Rattle.tree_specs.specs.Tree.Inside.{total}
use Rattle.tree_specs.specs.Tree.Sums.{charge, sum_inside}
use Rattle.tree_specs.proofs.Tree.Numbered.{by_test, same_or_not, same-false, same-equal}
use Rattle.tree_specs.proofs.Tree.Rows.{row_of-changed-same, row_of-without-same, total-without, Distinct-changed}
use Rattle.tree_specs.proofs.Tree.Referring.{reference-outside}
use Rattle.tree_specs.proofs.Tree.SumLaws.{owner-left, sum-below, sum-lone, sum-gone}
use Rattle.memory_limits.specs.declared.limited.Limited.{Limited}
use Rattle.memory_limits.specs.Limits.{unlimited, AllSums, HasLeft}

-- who counts nowhere else is missed by nobody else
pub others-same : (ls : List Limited) (rs rs' : List Row) (x : Obj) → ((y : Obj) → x ≢ y → sum_inside rs' (Of y) ≡ sum_inside rs (Of y)) → AllSums ls rs → AllSums (unlimited ls x) rs'
others-same [] rs rs' x h s = tt
others-same (l ∷ ls) rs rs' x h s =
    let ih = others-same ls rs rs' x h s.1 in
    elim (same_or_not x l.object) [
      | inl e ↦ let t : same l.object x ≡ true = same-equal l.object x (sym e) in rw t ih
      | inr ne ↦ let t : same l.object x ≡ false = same-false l.object x (λ e. ne (sym e)) in rw t (s.0 ∙ sym (h l.object ne), ih)
    ]

-- nothing but a reference itself is inside it, and it counts nothing
reference-empty : (rs : List Row) (r t : Obj) → IsForest rs → target_at rs r ≡ Some t → sum_inside rs (Of r) ≡ 0
reference-empty rs r t f is = each (row_of rs r) refl
  where
    none : (qs : List Row) → row_of qs r ≡ None → total (λ q. if is_inside rs (Of q.serial) (Of r) then charge q else 0) qs ≡ 0
    none [] e = refl
    none (q ∷ qs) e = by_test (same q.serial r)
        (λ u. let bad : Some q ≡ None = rw u at e in cc)
        (λ u. let e' : row_of qs r ≡ None = rw u at e in
        let ne : q.serial ≢ r = λ w. let v = same-equal q.serial r w in let bad : true ≡ false = sym v ∙ u in cc in
        let out : is_inside rs (Of q.serial) (Of r) ≡ false = reference-outside rs r t (Of q.serial) f is (λ w. ne (let w' : q.serial ≡ r = cc in w')) in
        let ih = none qs e' in rw out (omega (arith, ih)))

    each : (q : Option Row) → row_of rs r ≡ q → sum_inside rs (Of r) ≡ 0
    each None e = let bad : None ≡ Some t = rw e at is in cc
    each (Some q) e =
        let h : Row → ℕ = λ q. if is_inside rs (Of q.serial) (Of r) then charge q else 0 in
        let a = total-without h rs r q e in
        let b = none (without rs r) (row_of-without-same rs r f.distinct) in
        let c : charge q ≡ 0 = (let refers : target_in (Some q) ≡ Some t = rw e at is in rw refers refl) in
        let z : h q ≡ 0 = by_test (is_inside rs (Of q.serial) (Of r)) (λ u. rw u c) (λ u. rw u refl) in
        omega (arith, a, b, z)

-- without x, whatever became of it before
without-changed : (f : Row → Row) (rs : List Row) (x : Obj) → ((r : Row) → (f r).serial ≡ r.serial) → without (changed f rs x) x ≡ without rs x
without-changed f [] x k = refl
without-changed f (r ∷ rs) x k = by_test (same r.serial x)
    (λ t. let u : same (f r).serial x ≡ true = ap (λ (z : Obj). same z x) (k r) ∙ t in rw (t, u) refl)
    (λ t. let a : changed f (r ∷ rs) x ≡ r ∷ changed f rs x = rw t refl in
    let b : without (r ∷ changed f rs x) x ≡ r ∷ without (changed f rs x) x = rw t refl in
    let c : without (r ∷ rs) x ≡ r ∷ without rs x = rw t refl in
    ap (λ (qs : List Row). without qs x) a ∙ b ∙ ap (λ (qs : List Row). r ∷ qs) (without-changed f rs x k) ∙ sym c)

-- the sums of all others, where a reference is dropped
sum-dropped : (rs : List Row) (r t : Obj) (row : Row) → IsForest rs → row_of rs r ≡ Some row → target_at rs r ≡ Some t → (y : Obj) → r ≢ y → sum_inside (without rs r) (Of y) ≡ sum_inside rs (Of y)
sum-dropped rs r t row f q is y ne =
    ap (λ (qs : List Row). sum_inside qs (Of y)) (sym (without-changed left_row rs r (λ z. refl)))
    ∙ sum-gone (changed left_row rs r) r (left_row row) (Distinct-changed left_row rs r (λ z. refl) f.distinct) (row_of-changed-same left_row rs r row (λ z. refl) q) (owner-left rs r) y ne
    ∙ same-when-left (owner_of rs r) refl (Of y)
  where
    same-when-left : (o : Option Owner) → owner_of rs r ≡ o → (y : Owner) → sum_inside (changed left_row rs r) y ≡ sum_inside rs y
    same-when-left None w y = sym (sum-lone rs r w y)
    same-when-left (Some o) w y =
        let b = sum-below rs r o f.rooted w y in
        let z = reference-empty rs r t f is in
        by_test (is_inside rs o y) (λ u. let b' = rw (u, z) at b in omega (arith, b')) (λ u. let b' = rw u at b in omega (arith, b'))

pub gone-sums : (ls : List Limited) (rs : List Row) (x : Obj) → IsForest rs → is_row rs x ≡ true → HasLeft rs x → AllSums ls rs → AllSums (unlimited ls x) (without rs x)
gone-sums ls rs x f is left s = each (row_of rs x) refl
  where
    each : (q : Option Row) → row_of rs x ≡ q → AllSums (unlimited ls x) (without rs x)
    each None e = let bad : false ≡ true = rw e at is in cc
    each (Some r) e = elim left [
      | inl lone ↦ others-same ls rs (without rs x) x (λ y ne. sum-gone rs x r f.distinct e lone y ne) s
      | inr refers ↦ others-same ls rs (without rs x) x (λ y ne. sum-dropped rs x refers.0 r f e refers.1 y ne) s
    ]
