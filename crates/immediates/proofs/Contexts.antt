-- In which context each object comes.
use Rattle.std.proofs.Common.{◌≡◌, ℕ, Bool, true, false, cond, ◌||◌, nat_eq, List, [], ◌∷◌, ◌++◌, drop, Option, Some, None, is_some, not, refl, sym, ap, ◌∙◌}
use Rattle.std.proofs.lemmas.Bool.{eqb-true, eq-eqb}
use Rattle.std.specs.Option.{option_map}
use Rattle.tree_specs.specs.declared.object.Obj.{Obj}
use Rattle.tree_specs.specs.Words.Objects.{same}
use Rattle.tree_specs.specs.Events.Pending.{first}
use Rattle.tree_specs.proofs.Events.ContextLaws.{filter-filter, soon-unscheduled}
use Rattle.linked_lanes.specs.Lane.{has, last, is_at}
use Rattle.linked_lanes.proofs.Lanes.{by_test, false_by, is_at-same}
use Rattle.linked_lanes.proofs.Ends.{has-last}
use Rattle.tree_specs.specs.declared.coming.Coming.{Coming}
use Rattle.tree_specs.specs.Events.Pending.{is_scheduled, unscheduled, soon_in, soon_without}
use Rattle.immediates.specs.Waiting.{AreOnce, object_of, next_in}
use Rattle.immediates.specs.Linked.{numbered, one_in, lane_in, context_in}
use Rattle.immediates.proofs.Once.{few-once, few-absent, absent-same, nobody-gone, first-gone}
use Rattle.immediates.proofs.Lanes.{has-append, one-has, one-other, absent-lane, soon-next}

-- ---- the context of an object

pub scheduled-context : (xs : List Coming) (x : Obj) → is_scheduled xs x ≡ is_some (context_in xs x.0)
scheduled-context [] x = refl
scheduled-context (y ∷ ys) x = by_test (same y.object x) (λ t. rw t refl) (λ t. rw t (scheduled-context ys x))

or_false : (b : Bool) → (b || false) ≡ b
or_false true = refl
or_false false = refl

-- it stands in the lane of this context, and in no other
pub member : (xs : List Coming) (c q : ℕ) → AreOnce xs → has (lane_in xs c) q ≡ is_at (context_in xs q) c
member [] c q a = refl
member (y ∷ ys) c q a = has-append (lane_in ys c) (one_in y c) q ∙ by_test (nat_eq y.object.0 q)
    (λ t. let out = absent-lane ys (numbered q) c (absent-same ys y.object (numbered q) t a.0) in
    let one = one-has y q c t in
    rw t (λ i. out i || one i))
    (λ t. let ih = member ys c q a.1 in
    let one = one-other y q c t in
    rw t ((λ i. ih i || one i) ∙ or_false (is_at (context_in ys q) c)))

pub context-left : (xs : List Coming) (x : Obj) (q : ℕ) → context_in (unscheduled xs x) q ≡ cond (nat_eq x.0 q) None (context_in xs q)
context-left [] x q = by_test (nat_eq x.0 q) (λ t. rw t refl) (λ t. rw t refl)
context-left (y ∷ ys) x q = by_test (same y.object x)
    (λ t. rw t (context-left ys x q ∙ by_test (nat_eq x.0 q)
    (λ u. rw u refl)
    (λ u. let n : nat_eq y.object.0 q ≡ false = ap (λ (k : ℕ). nat_eq k q) (eqb-true y.object.0 x.0 t) ∙ u in rw (u, n) refl)))
    (λ t. rw t (by_test (nat_eq y.object.0 q)
    (λ u. let n : nat_eq x.0 q ≡ false = false_by _ (λ w.
    let same_now : nat_eq y.object.0 x.0 ≡ true = eq-eqb y.object.0 x.0 (eqb-true y.object.0 q u ∙ sym (eqb-true x.0 q w)) in
    let bad : true ≡ false = sym same_now ∙ t in cc) in rw (u, n) refl)
    (λ u. rw u (context-left ys x q))))

pub context-joined : (xs : List Coming) (y : Coming) (q : ℕ) → context_in xs y.object.0 ≡ None → context_in (xs ++ y ∷ []) q ≡ cond (nat_eq y.object.0 q) (Some y.context.0) (context_in xs q)
context-joined [] y q e = refl
context-joined (z ∷ zs) y q e = by_test (nat_eq z.object.0 y.object.0)
    (λ t. let bad : Some z.context.0 ≡ None = rw t at e in absurd (cc))
    (λ t. let e' : context_in zs y.object.0 ≡ None = rw t at e in by_test (nat_eq z.object.0 q)
    (λ u. let n : nat_eq y.object.0 q ≡ false = false_by _ (λ w.
    let same_now : nat_eq z.object.0 y.object.0 ≡ true = eq-eqb z.object.0 y.object.0 (eqb-true z.object.0 q u ∙ sym (eqb-true y.object.0 q w)) in
    let bad : true ≡ false = sym same_now ∙ t in cc) in rw (u, n) refl)
    (λ u. rw u (context-joined zs y q e')))

-- ---- the one that comes next

next-last : (o : Option ℕ) (x : Obj) → option_map numbered o ≡ Some x → o ≡ Some x.0
next-last None x e = cc
next-last (Some n) x e = let is : numbered n ≡ x = cc in ap (λ (y : Obj). Some y.0) is

pub next-context : (xs : List Coming) (c x : Obj) → AreOnce xs → next_in xs c ≡ Some x → context_in xs x.0 ≡ Some c.0
next-context xs c x a e =
    let is = next-last (last (lane_in xs c.0)) x (sym (soon-next xs c) ∙ e) in
    is_at-same (context_in xs x.0) c.0 (sym (member xs c.0 x.0 a) ∙ has-last (lane_in xs c.0) x.0 is)

-- one of a context isn't among those of the others
out_of_others : (xs : List Coming) (c x : Obj) → AreOnce xs → context_in xs x.0 ≡ Some c.0 → is_scheduled (soon_without xs c) x ≡ false
out_of_others [] c x a e = refl
out_of_others (y ∷ ys) c x a e = by_test (same y.object x)
    (λ t. let here : Some y.context.0 ≡ Some c.0 = rw t at e in
    let is : y.context.0 ≡ c.0 = cc in
    let u : same y.context c ≡ true = eq-eqb y.context.0 c.0 is in
    rw u (few-absent (λ z. not (same z.context c)) ys x (absent-same ys y.object x t a.0)))
    (λ t. let e' : context_in ys x.0 ≡ Some c.0 = rw t at e in
    let ih = out_of_others ys c x a.1 e' in
    by_test (same y.context c) (λ u. rw u ih) (λ u. rw u (rw t ih)))

module _ (xs : List Coming) (c x : Obj) (a : AreOnce xs) (e : next_in xs c ≡ Some x) where
  -- what is left where it comes, and elsewhere
  pub next-here : soon_in (unscheduled xs x) c ≡ drop 1 (soon_in xs c)
  next-here = soon-unscheduled xs x c ∙ first-gone (soon_in xs c) x (few-once (λ y. same y.context c) xs a) e

  pub next-elsewhere : soon_without (unscheduled xs x) c ≡ soon_without xs c
  next-elsewhere = filter-filter (λ y. not (same y.context c)) (λ y. not (same y.object x)) xs ∙ nobody-gone (soon_without xs c) x (out_of_others xs c x a (next-context xs c x a e))

-- none comes next where none waits
pub next-none : (xs : List Coming) (c : Obj) → next_in xs c ≡ None → soon_in xs c ≡ []
next-none xs c e = go (soon_in xs c) e
  where
    go : (ys : List Coming) → option_map object_of (first ys) ≡ None → ys ≡ []
    go [] e = refl
    go (y ∷ ys) e = cc

-- those of the others are all, where none waits in a context
pub none-without : (xs : List Coming) (c : Obj) → soon_in xs c ≡ [] → soon_without xs c ≡ xs
none-without [] c e = refl
none-without (y ∷ ys) c e = by_test (same y.context c)
    (λ t. let bad : y ∷ soon_in ys c ≡ [] = rw t at e in absurd (cc))
    (λ t. let e' : soon_in ys c ≡ [] = rw t at e in rw t (ap (λ (zs : List Coming). y ∷ zs) (none-without ys c e')))
