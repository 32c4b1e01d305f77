-- The lanes of a list of rows, and the list that the links tell.
use Rattle.std.proofs.Common.{◌≡◌, ℕ, suc, zero, ◌≤◌, Bool, true, false, cond, List, [], ◌∷◌, length, Option, Some, None, is_some, refl, sym, ap, ◌∙◌, arith}
use Rattle.std.proofs.lemmas.Bool.{eqb-true, eq-eqb}
use Rattle.std.specs.Option.{option_map}
use Rattle.std.specs.FinMap as map
use Rattle.tree_specs.specs.declared.object.Obj.{Obj}
use Rattle.tree_specs.specs.declared.object.Owner.{Owner}
use Rattle.tree_specs.specs.declared.row.Row.{Row}
use Rattle.tree_specs.specs.Words.Objects.{same}
use Rattle.tree_specs.specs.Tree.Pool.{row_of, is_below, behind, without as rows_without, changed, first_kid, owner_of, owner_in}
use Rattle.tree_specs.specs.Tree.Forest.{Distinct as Once}
use Rattle.tree_specs.proofs.Tree.Numbered.{is_below-some, same-true}
use Rattle.linked_lanes.specs.Lane.{first, has, after, without, Distinct}
use Rattle.linked_lanes.specs.Chain.{sides_in}
use Rattle.tree_links.specs.Nodes.{Nodes, Apart, Holds, lane, numbers, children, row_at, walk, rows_of, older_at, row_before, row_in, placed_in}
use Rattle.tree_links.specs.declared.node.Node.{Node}
use Rattle.linked_lanes.specs.declared.Sides.{Sides}
use Rattle.linked_lanes.proofs.Lanes.{by_test, not_both, false_by, eqb-self, without-absent}

abbrev pub obj : ℕ → Obj
obj n = record { 0 = n }

abbrev pub passes : (Row → Bool) → Option Row → Bool
passes f None = false
passes f (Some r) = f r

module _ (f : Row → Bool) where
  -- who stands in a lane
  pub lane-has : (rs : List Row) (k : ℕ) → Once rs → has (lane f rs) k ≡ passes f (row_of rs (obj k))
  lane-has [] k d = refl
  lane-has (r ∷ rs) k d = by_test (same r.serial (obj k))
      (λ t. by_test (f r)
      (λ u. rw (u, t) (sym u))
      (λ u. rw (t, u) (lane-has rs k d.1 ∙ ap (passes f) (ap (row_of rs) (sym (same-true r.serial (obj k) t)) ∙ d.0))))
      (λ t. by_test (f r)
      (λ u. rw (u, t) (lane-has rs k d.1))
      (λ u. rw (u, t) (lane-has rs k d.1)))

  pub lane-distinct : (rs : List Row) → Once rs → Distinct (lane f rs)
  lane-distinct [] d = tt
  lane-distinct (r ∷ rs) d = by_test (f r)
      (λ u. rw u (lane-has rs r.serial.0 d.1 ∙ ap (passes f) d.0, lane-distinct rs d.1))
      (λ u. rw u (lane-distinct rs d.1))

  pub lane-without : (rs : List Row) (x : Obj) → Once rs → lane f (rows_without rs x) ≡ without (lane f rs) x.0
  lane-without [] x d = refl
  lane-without (r ∷ rs) x d = by_test (same r.serial x)
      (λ t. by_test (f r)
      (λ u. rw (u, t) refl)
      (λ u. rw (u, t) (sym (without-absent (lane f rs) x.0 (lane-has rs x.0 d.1 ∙ ap (passes f) (ap (row_of rs) (sym (same-true r.serial x t)) ∙ d.0))))))
      (λ t. by_test (f r)
      (λ u. rw (u, t) (rw u (ap (λ l. r.serial.0 ∷ l) (lane-without rs x d.1))))
      (λ u. rw (u, t) (rw u (lane-without rs x d.1))))

  -- one row is changed and stays in the lane
  pub lane-changed : (g : Row → Row) → ((r : Row) → (g r).serial ≡ r.serial) → ((r : Row) → f (g r) ≡ f r) → (rs : List Row) (x : Obj) → lane f (changed g rs x) ≡ lane f rs
  lane-changed g k e [] x = refl
  lane-changed g k e (r ∷ rs) x = by_test (same r.serial x)
      (λ t. rw t (λ i. cond (e r i) ((k r i).0 ∷ lane f rs) (lane f rs)))
      (λ t. rw t (ap (λ l. cond (f r) (r.serial.0 ∷ l) l) (lane-changed g k e rs x)))

  -- one row is changed and leaves the lane
  pub lane-left : (g : Row → Row) → ((r : Row) → f (g r) ≡ false) → (rs : List Row) (x : Obj) → Once rs → lane f (changed g rs x) ≡ without (lane f rs) x.0
  lane-left g e [] x d = refl
  lane-left g e (r ∷ rs) x d = by_test (same r.serial x)
      (λ t. by_test (f r)
      (λ u. rw (u, t, e r) refl)
      (λ u. rw (u, t, e r) (sym (without-absent (lane f rs) x.0 (lane-has rs x.0 d.1 ∙ ap (passes f) (ap (row_of rs) (sym (same-true r.serial x t)) ∙ d.0))))))
      (λ t. by_test (f r)
      (λ u. rw (u, t) (rw u (ap (λ l. r.serial.0 ∷ l) (lane-left g e rs x d.1))))
      (λ u. rw (u, t) (rw u (lane-left g e rs x d.1))))

  -- the next in the lane is the first of those behind
  pub lane-after : (rs : List Row) (x : Obj) (r : Row) → row_of rs x ≡ Some r → f r ≡ true → after (lane f rs) x.0 ≡ first (lane f (behind rs x))
  lane-after [] x r e t = cc
  lane-after (s ∷ rs) x r e t = by_test (same s.serial x)
      (λ u. let e' : Some s ≡ Some r = rw u at e in let sr : s ≡ r = cc in let t' : f s ≡ true = ap f sr ∙ t in rw (t', u) refl)
      (λ u. let e' : row_of rs x ≡ Some r = rw u at e in by_test (f s)
      (λ w. rw (w, u) (lane-after rs x r e' t))
      (λ w. rw (w, u) (lane-after rs x r e' t)))

pub numbers-has : (rs : List Row) (k : ℕ) → Once rs → has (numbers rs) k ≡ is_some (row_of rs (obj k))
numbers-has rs k d = lane-has (λ r. true) rs k d ∙ go (row_of rs (obj k))
  where
    go : (o : Option Row) → passes (λ r. true) o ≡ is_some o
    go None = refl
    go (Some r) = refl

pub children-has : (rs : List Row) (p : Owner) (k : ℕ) → Once rs → has (children rs p) k ≡ is_below (owner_of rs (obj k)) p
children-has rs p k d = lane-has (λ r. is_below r.owner p) rs k d ∙ go (row_of rs (obj k))
  where
    go : (o : Option Row) → passes (λ r. is_below r.owner p) o ≡ is_below (owner_in o) p
    go None = refl
    go (Some r) = refl

pub children-apart : (rs : List Row) → Once rs → (o : Owner) → Apart (children rs) o
children-apart rs d o p k n h =
    let a : is_below (owner_of rs (obj k)) o ≡ true = sym (children-has rs o k d) ∙ h in
    let b : owner_of rs (obj k) ≡ Some o = is_below-some _ o a in
    children-has rs p k d ∙ ap (λ w. is_below w p) b ∙ n

pub first-child : (rs : List Row) (p : Owner) → first_kid rs p ≡ option_map obj (first (children rs p))
first-child [] p = refl
first-child (r ∷ rs) p = by_test (is_below r.owner p) (λ t. rw t refl) (λ t. rw t (first-child rs p))

-- ---- one row, by its number

pub row-changed : (g : Row → Row) → ((r : Row) → (g r).serial ≡ r.serial) → (rs : List Row) (x q : Obj) → row_of (changed g rs x) q ≡ cond (same x q) (option_map g (row_of rs q)) (row_of rs q)
row-changed g k [] x q = by_test (same x q) (λ t. rw t refl) (λ t. rw t refl)
row-changed g k (r ∷ rs) x q = by_test (same r.serial x)
    (λ t. let rx = same-true r.serial x t in
    let e : same r.serial q ≡ same x q = ap (λ (y : Obj). same y q) rx in
    let e' : same (g r).serial q ≡ same x q = ap (λ (y : Obj). same y q) (k r) ∙ e in
    rw t (rw (e, e') (go (same x q))))
    (λ t. rw t (by_test (same r.serial q)
    (λ u. let n : same x q ≡ false = false_by _ (λ w. not_both (eq-eqb _ _ (eqb-true r.serial.0 q.0 u ∙ sym (eqb-true x.0 q.0 w))) t) in rw (u, n) refl)
    (λ u. rw u (row-changed g k rs x q))))
  where
    go : (b : Bool) → cond b (Some (g r)) (row_of rs q) ≡ cond b (option_map g (cond b (Some r) (row_of rs q))) (cond b (Some r) (row_of rs q))
    go true = refl
    go false = refl

pub row-without : (rs : List Row) (x q : Obj) → Once rs → row_of (rows_without rs x) q ≡ cond (same x q) None (row_of rs q)
row-without [] x q d = by_test (same x q) (λ t. rw t refl) (λ t. rw t refl)
row-without (r ∷ rs) x q d = by_test (same r.serial x)
    (λ t. let rx = same-true r.serial x t in rw t (by_test (same x q)
    (λ u. rw u (ap (row_of rs) (sym (rx ∙ same-true x q u)) ∙ d.0))
    (λ u. let n : same r.serial q ≡ false = ap (λ (y : Obj). same y q) rx ∙ u in rw (u, n) refl)))
    (λ t. rw t (by_test (same r.serial q)
    (λ u. let n : same x q ≡ false = false_by _ (λ w. not_both (eq-eqb _ _ (eqb-true r.serial.0 q.0 u ∙ sym (eqb-true x.0 q.0 w))) t) in rw (u, n) refl)
    (λ u. rw u (row-without rs x q d.1))))

-- ---- the list that the links tell

-- each row's node, which leads to the next
abbrev Follows : Nodes → List Row → Type 0
Follows m [] = Unit {0}
Follows m (r ∷ rs) = (row_at m r.serial.0 ≡ Some r) × (older_at (map.get m r.serial.0) ≡ first (numbers rs)) × Follows m rs

walk-follows : (m : Nodes) (n : ℕ) (rs : List Row) → length rs ≤ n → Follows m rs → walk m n (first (numbers rs)) ≡ rs
walk-follows m zero [] h f = refl
walk-follows m (suc n) [] h f = refl
walk-follows m zero (r ∷ rs) h f = absurd (omega arith)
walk-follows m (suc n) (r ∷ rs) h f =
    ap (row_before (map.get m r.serial.0)) (ap (walk m n) f.1 ∙ walk-follows m n rs (omega arith) f.2) ∙ go (map.get m r.serial.0) f.0
  where
    go : (o : Option Node) → option_map row_in o ≡ Some r → row_before o rs ≡ r ∷ rs
    go None e = cc
    go (Some v) e = let e' : v.row ≡ r = cc in ap (λ z. z ∷ rs) e'

follows : (m : Nodes) (rs : List Row) → Once rs → ((q : Obj) (r : Row) → row_of rs q ≡ Some r → (row_at m q.0 ≡ Some r) × (older_at (map.get m q.0) ≡ after (numbers rs) q.0)) → Follows m rs
follows m [] d h = tt
follows m (r ∷ rs) d h =
    let self : same r.serial r.serial ≡ true = eqb-self r.serial.0 in
    let here = h r.serial r (rw self refl) in (
      here.0,
      here.1 ∙ rw self refl,
      follows m rs d.1 (λ q s e.
          let n : same r.serial q ≡ false = false_by _ (λ t. let bad : None ≡ Some s = sym d.0 ∙ ap (row_of rs) (same-true r.serial q t) ∙ e in cc) in
          let p = h q s (rw n e) in (p.0, p.1 ∙ rw n refl)),
    )

pub held-rows : (m : Nodes) (front root : Option ℕ) (rows : List Row) → Once rows → Holds m front root rows → rows_of m front ≡ rows
held-rows m front root rows d h =
    ap (rows_of m) h.linked.placed.at_head ∙ walk-follows m (map.len m) rows (omega (arith, h.count))
    (follows m rows d (λ q r e.
    let at : row_at m q.0 ≡ Some r = h.row q.0 ∙ e in
    let s = h.linked.placed.sides q.0 (numbers-has rows q.0 d ∙ ap is_some e) in
    (at, go (map.get m q.0) q.0 s)))
  where
    go : (o : Option Node) (q : ℕ) → option_map placed_in o ≡ Some (sides_in (numbers rows) q) → older_at o ≡ after (numbers rows) q
    go None q e = cc
    go (Some v) q e = let e' : v.placed ≡ sides_in (numbers rows) q = cc in ap (λ (s : Sides). s.older) e'
