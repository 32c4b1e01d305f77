-- The rows as a finite map with an order: what each change leaves.
use Rattle.std.proofs.Common.{◌≡◌, ◌≢◌, ℕ, ◌+◌, ◌≤◌, List, [], ◌∷◌, length, Some, None, true, false, refl, sym, ◌∙◌, ap, arith, subst}
use Rattle.tree_specs.specs.declared.object.Obj.{Obj}
use Rattle.tree_specs.specs.declared.object.Owner.{Owner}
use Rattle.tree_specs.specs.declared.row.Row.{Row}
use Rattle.tree_specs.specs.Words.Objects.{same}
use Rattle.tree_specs.specs.Tree.Pool.{Pool, row_of, without, changed, owner_in, owner_of, is_below, first_kid, place}
use Rattle.tree_specs.specs.Tree.Forest.{Distinct}
use Rattle.tree_specs.specs.Tree.Inside.{total}
use Rattle.tree_specs.specs.Invariants.Measure.{count}
use Rattle.tree_specs.proofs.Tree.Numbered.{by_test, same-true, same-equal, same-false, is_below-some, same_owner-equal}

pub total-without : (g : Row → ℕ) (rs : List Row) (x : Obj) (r : Row) → row_of rs x ≡ Some r → total g rs ≡ g r + total g (without rs x)
total-without g [] x r e = cc
total-without g (s ∷ rs) x r e = by_test (same s.serial x)
    (λ h. let e' : Some s ≡ Some r = rw h at e in let e'' : s ≡ r = cc in rw (h, e'') refl)
    (λ h. let e' : row_of rs x ≡ Some r = rw h at e in let ih = total-without g rs x r e' in rw h (omega (arith, ih)))

pub total-changed : (g : Row → ℕ) (f : Row → Row) (rs : List Row) (x : Obj) (r : Row) → row_of rs x ≡ Some r
    → total g (changed f rs x) + g r ≡ total g rs + g (f r)
total-changed g f [] x r e = cc
total-changed g f (s ∷ rs) x r e = by_test (same s.serial x)
    (λ h. let e' : Some s ≡ Some r = rw h at e in let e'' : s ≡ r = cc in rw (h, e'') (omega arith))
    (λ h. let e' : row_of rs x ≡ Some r = rw h at e in let ih = total-changed g f rs x r e' in rw h (omega (arith, ih)))

-- a weight that doesn't look at the owner is the same after an object was put elsewhere
pub total-placed : (g : Row → ℕ) (p : Pool) (o : Owner) (x : Obj) (r : Row) → row_of p.rows x ≡ Some r → g (record r { owner = Some o }) ≡ g r → total g (place p o x).rows ≡ total g p.rows
total-placed g p o x r e same_weight = let w = total-without g p.rows x r e in rw e (omega (arith, w, same_weight))

pub row_of-serial : (rs : List Row) (x : Obj) (r : Row) → row_of rs x ≡ Some r → r.serial ≡ x
row_of-serial [] x r e = cc
row_of-serial (s ∷ rs) x r e = by_test (same s.serial x)
    (λ h. let e' : Some s ≡ Some r = rw h at e in let e'' : s ≡ r = cc in ap (λ (q : Row). q.serial) (sym e'') ∙ same-true s.serial x h)
    (λ h. let e' : row_of rs x ≡ Some r = rw h at e in row_of-serial rs x r e')

pub row_of-changed-other : (f : Row → Row) (rs : List Row) (x y : Obj) → ((r : Row) → (f r).serial ≡ r.serial) → x ≢ y
    → row_of (changed f rs x) y ≡ row_of rs y
row_of-changed-other f [] x y k h = refl
row_of-changed-other f (s ∷ rs) x y k h = by_test (same s.serial x)
    (λ t. let e : s.serial ≡ x = same-true s.serial x t in
    let t2 : same (f s).serial y ≡ false = same-false _ _ (λ q. h (sym e ∙ sym (k s) ∙ q)) in
    let t3 : same s.serial y ≡ false = same-false _ _ (λ q. h (sym e ∙ q)) in
    rw (t, t2, t3) refl)
    (λ t. let ih = row_of-changed-other f rs x y k h in rw (t, ih) refl)

pub row_of-changed-same : (f : Row → Row) (rs : List Row) (x : Obj) (r : Row) → ((r : Row) → (f r).serial ≡ r.serial) → row_of rs x ≡ Some r
    → row_of (changed f rs x) x ≡ Some (f r)
row_of-changed-same f [] x r k e = cc
row_of-changed-same f (s ∷ rs) x r k e = by_test (same s.serial x)
    (λ t. let e' : Some s ≡ Some r = rw t at e in let e'' : s ≡ r = cc in
    let t2 : same (f s).serial x ≡ true = same-equal _ _ (k s ∙ same-true s.serial x t) in
    rw (t, t2, e'') refl)
    (λ t. let e' : row_of rs x ≡ Some r = rw t at e in let ih = row_of-changed-same f rs x r k e' in rw (t, t, ih) refl)

pub row_of-without-other : (rs : List Row) (x y : Obj) → x ≢ y → row_of (without rs x) y ≡ row_of rs y
row_of-without-other [] x y h = refl
row_of-without-other (s ∷ rs) x y h = by_test (same s.serial x)
    (λ t. let t3 : same s.serial y ≡ false = same-false _ _ (λ q. h (sym (same-true s.serial x t) ∙ q)) in rw (t, t3) refl)
    (λ t. let ih = row_of-without-other rs x y h in rw (t, ih) refl)

pub row_of-without-same : (rs : List Row) (x : Obj) → Distinct rs → row_of (without rs x) x ≡ None
row_of-without-same [] x d = refl
row_of-without-same (s ∷ rs) x d = by_test (same s.serial x)
    (λ t. rw t (ap (row_of rs) (sym (same-true s.serial x t)) ∙ d.0))
    (λ t. let ih = row_of-without-same rs x d.1 in rw (t, t, ih) refl)

pub row_of-without-none : (rs : List Row) (x y : Obj) → row_of rs y ≡ None → row_of (without rs x) y ≡ None
row_of-without-none [] x y h = refl
row_of-without-none (s ∷ rs) x y h = by_test (same s.serial y)
    (λ u. let bad : Some s ≡ None = rw u at h in cc)
    (λ u. let h' : row_of rs y ≡ None = rw u at h in by_test (same s.serial x)
    (λ t. rw t h')
    (λ t. let ih = row_of-without-none rs x y h' in rw (t, u, ih) refl))

pub row_of-changed-none : (f : Row → Row) (rs : List Row) (x y : Obj) → ((r : Row) → (f r).serial ≡ r.serial) → row_of rs y ≡ None → row_of (changed f rs x) y ≡ None
row_of-changed-none f [] x y k h = refl
row_of-changed-none f (s ∷ rs) x y k h = by_test (same s.serial y)
    (λ u. let bad : Some s ≡ None = rw u at h in cc)
    (λ u. let h' : row_of rs y ≡ None = rw u at h in by_test (same s.serial x)
    (λ t. let u2 : same (f s).serial y ≡ false = ap (λ q. same q y) (k s) ∙ u in rw (t, u2, h') refl)
    (λ t. let ih = row_of-changed-none f rs x y k h' in rw (t, u, ih) refl))

-- an object that is placed has another owner, and no other row changes
pub row_of-placed-other : (p : Pool) (o : Owner) (x y : Obj) (r : Row) → row_of p.rows x ≡ Some r → x ≢ y → row_of (place p o x).rows y ≡ row_of p.rows y
row_of-placed-other p o x y r e ne =
    let at : r.serial ≡ x = row_of-serial p.rows x r e in
    let u : same r.serial y ≡ false = same-false r.serial y (λ q. ne (sym at ∙ q)) in
    rw (e, u) (row_of-without-other p.rows x y ne)

pub row_of-placed-same : (p : Pool) (o : Owner) (x : Obj) (r : Row) → row_of p.rows x ≡ Some r → row_of (place p o x).rows x ≡ Some (record r { owner = Some o })
row_of-placed-same p o x r e =
    let self : same r.serial x ≡ true = same-equal r.serial x (row_of-serial p.rows x r e) in
    rw (e, self) refl

pub Distinct-without : (rs : List Row) (x : Obj) → Distinct rs → Distinct (without rs x)
Distinct-without [] x d = tt
Distinct-without (s ∷ rs) x d = by_test (same s.serial x)
    (λ t. rw t d.1)
    (λ t. rw t (row_of-without-none rs x s.serial d.0, Distinct-without rs x d.1))

pub Distinct-changed : (f : Row → Row) (rs : List Row) (x : Obj) → ((r : Row) → (f r).serial ≡ r.serial) → Distinct rs → Distinct (changed f rs x)
Distinct-changed f [] x k d = tt
Distinct-changed f (s ∷ rs) x k d = by_test (same s.serial x)
    (λ t. rw t (ap (row_of rs) (k s) ∙ d.0, d.1))
    (λ t. rw t (row_of-changed-none f rs x s.serial k d.0, Distinct-changed f rs x k d.1))

-- the first child is a row with that owner
pub first_kid-owner : (rs : List Row) (p : Owner) (c : Obj) → Distinct rs → first_kid rs p ≡ Some c → owner_of rs c ≡ Some p
first_kid-owner [] p c d e = cc
first_kid-owner (s ∷ rs) p c d e = by_test (is_below s.owner p)
    (λ t. let e' : Some s.serial ≡ Some c = rw t at e in let e'' : s.serial ≡ c = cc in
    let u : same s.serial c ≡ true = same-equal _ _ e'' in rw u (is_below-some s.owner p t))
    (λ t. let e' : first_kid rs p ≡ Some c = rw t at e in
    let ih : owner_of rs c ≡ Some p = first_kid-owner rs p c d.1 e' in
    let u : same s.serial c ≡ false = same-false _ _ (λ q.
    let n : row_of rs c ≡ None = ap (row_of rs) (sym q) ∙ d.0 in
    let n' : owner_of rs c ≡ None = ap owner_in n in let bad : Some p ≡ None = sym ih ∙ n' in cc) in
    rw u ih)

pub count-none : (rs : List Row) (p : Owner) → first_kid rs p ≡ None → count rs p ≡ 0
count-none [] p e = refl
count-none (s ∷ rs) p e = by_test (is_below s.owner p)
    (λ t. let bad : Some s.serial ≡ None = rw t at e in cc)
    (λ t. let e' : first_kid rs p ≡ None = rw t at e in let ih = count-none rs p e' in rw t (omega (arith, ih)))

pub count-length : (rs : List Row) (p : Owner) → count rs p ≤ length rs
count-length [] p = omega arith
count-length (s ∷ rs) p = let ih = count-length rs p in by_test (is_below s.owner p) (λ t. rw t (omega (arith, ih))) (λ t. rw t (omega (arith, ih)))

pub total-length : (rs : List Row) → total (λ r. 1) rs ≡ length rs
total-length [] = refl
total-length (s ∷ rs) = let ih = total-length rs in omega (arith, ih)

-- an owner that has no first child owns nothing
pub childless : (rs : List Row) (p : Owner) (y : Obj) (r : Row) → first_kid rs p ≡ None → row_of rs y ≡ Some r → r.owner ≡ Some p → ⊥
childless [] p y r none e owned = cc
childless (s ∷ rs) p y r none e owned = by_test (is_below s.owner p)
    (λ t. let bad : Some s.serial ≡ None = rw t at none in cc)
    (λ t. by_test (same s.serial y)
    (λ u.
    let e' : Some s ≡ Some r = rw u at e in
    let is : s ≡ r = cc in
    let owned' : s.owner ≡ Some p = subst (λ (z : Row). z.owner ≡ Some p) (sym is) owned in
    let below : is_below s.owner p ≡ true = rw owned' (same_owner-equal p p refl) in
    let bad : true ≡ false = sym below ∙ t in cc)
    (λ u. childless rs p y r (rw t at none) (rw u at e) owned))
