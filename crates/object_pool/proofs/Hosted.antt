-- Which objects are contexts stays where the rows change, and in each of them all may come that is to.
use Rattle.std.proofs.Common.{◌≡◌, ◌≢◌, Bool, true, false, ◌&&◌, ◌||◌, List, [], ◌∷◌, map, Option, Some, None, ℕ, refl, sym, ap, subst, ◌∙◌, inl, inr}
use Rattle.std.specs.Option.{option_map}
use Rattle.tree_specs.specs.declared.free_step.FreeStep.{FreeStep}
use Rattle.tree_specs.specs.declared.free_step.FreeStep.TheVariants.{Ask, Prepare, Drain, Dropped, Refused, Accepted, Doom, Left, Moved, Gone, Done}
use Rattle.tree_specs.specs.declared.kind.Kind.{Kind}
use Rattle.tree_specs.specs.declared.object.Obj.{Obj}
use Rattle.tree_specs.specs.declared.object.Owner.{Owner}
use Rattle.tree_specs.specs.declared.row.Row.{Row}
use Rattle.tree_specs.specs.Tree.Forest.{IsForest}
use Rattle.tree_specs.specs.Tree.Pool.{Pool, of_rows, row_of, is_row, is_context_row, is_usable_row, is_usable, changed, without, left_row, add, place}
use Rattle.tree_specs.specs.Tree.Targets.{is_context}
use Rattle.tree_specs.specs.Words.Objects.{same, first_context}
use Rattle.tree_specs.proofs.Tree.Numbered.{by_test, same_or_not, same-equal, same-true}
use Rattle.tree_specs.proofs.Tree.Rows.{row_of-changed-same, row_of-changed-other, row_of-changed-none, row_of-without-same, row_of-without-other, row_of-placed-same, row_of-placed-other}
use Rattle.destructors.specs.Changes.{bare, SameRows, ChangedBy, placed_rows}
use Rattle.object_pool.specs.Upcoming.{Agenda, holds_context, is_other, HoldsUsable, KeepsContexts, KeepsAllBut, gone_by}
use Rattle.object_pool.proofs.Counted.{rows-same}

-- no object has become a context
abbrev pub NoMoreContexts : List Row → List Row → Type 0
NoMoreContexts rs rs' = (c : Obj) → is_context_row (row_of rs' c) ≡ true → is_context_row (row_of rs c) ≡ true

-- all may come in each context
abbrev pub HoldsContexts : List Row → Agenda → Type 0
HoldsContexts rs a = (c : Obj) → is_context_row (row_of rs c) ≡ true → holds_context a c ≡ true

-- so it may in each that is usable
pub holds-usable : (rs : List Row) (a : Agenda) → HoldsContexts rs a → HoldsUsable rs a
holds-usable rs a h c usable = by_test (same c first_context)
    (λ t. let first : same first_context c ≡ true = same-equal first_context c (sym (same-true c first_context t)) in rw first refl)
    (λ t. h c (both (is_context_row (row_of rs c)) (is_usable_row (row_of rs c)) (rw t at usable)))
  where
    both : (a b : Bool) → (a && b) ≡ true → a ≡ true
    both true b e = refl
    both false b e = e

pub holds-after : (rs rs' : List Row) (a a' : Agenda) → HoldsContexts rs a → NoMoreContexts rs rs' → KeepsContexts a a' → HoldsContexts rs' a'
holds-after rs rs' a a' h n k c is = k.held c (h c (n c is))

-- ---- single changes

pub contexts-changed : (f : Row → Row) (rs : List Row) (x : Obj) → ((r : Row) → (f r).serial ≡ r.serial) → ((r : Row) → (f r).kind ≡ r.kind) → NoMoreContexts rs (changed f rs x)
contexts-changed f rs x k same_kind c is = elim (same_or_not x c) [
  | inl e ↦ each (row_of rs x) refl e
  | inr ne ↦ rw (row_of-changed-other f rs x c k ne) at is
]
  where
    each : (o : Option Row) → row_of rs x ≡ o → x ≡ c → is_context_row (row_of rs c) ≡ true
    each None at e =
        let none : row_of (changed f rs x) c ≡ None = row_of-changed-none f rs x c k (subst (λ (y : Obj). row_of rs y ≡ None) e at) in
        let bad : false ≡ true = rw none at is in cc
    each (Some r) at e =
        let there : row_of (changed f rs x) c ≡ Some (f r) = subst (λ (y : Obj). row_of (changed f rs x) y ≡ Some (f r)) e (row_of-changed-same f rs x r k at) in
        let was : is_context r.kind ≡ true = ap is_context (sym (same_kind r)) ∙ (rw there at is) in
        let here : row_of rs c ≡ Some r = subst (λ (y : Obj). row_of rs y ≡ Some r) e at in
        rw here was

pub contexts-placed : (p : Pool) (o : Owner) (x : Obj) (r : Row) → row_of p.rows x ≡ Some r → NoMoreContexts p.rows (place p o x).rows
contexts-placed p o x r at c is = elim (same_or_not x c) [
  | inl e ↦ (let there = subst (λ (y : Obj). row_of (place p o x).rows y ≡ Some (record r { owner = Some o })) e (row_of-placed-same p o x r at) in
      let here : row_of p.rows c ≡ Some r = subst (λ (y : Obj). row_of p.rows y ≡ Some r) e at in
      let was : is_context r.kind ≡ true = rw there at is in rw here was)
  | inr ne ↦ rw (row_of-placed-other p o x c r at ne) at is
]

pub contexts-added : (p : Pool) (kind : Kind) (o : Owner) (size : ℕ) (name : List ℕ) → is_context kind ≡ false → NoMoreContexts p.rows (add p kind o size name).rows
contexts-added p kind o size name none c is = by_test (same (record { 0 = p.next }) c)
    (λ t. let bad : is_context kind ≡ true = rw t at is in let no : false ≡ true = rw none at bad in cc)
    (λ t. rw t at is)

contexts-without : (rs : List Row) (x : Obj) → IsForest rs → NoMoreContexts rs (without rs x)
contexts-without rs x forest c is = elim (same_or_not x c) [
  | inl e ↦ (let none : row_of (without rs x) c ≡ None = subst (λ (y : Obj). row_of (without rs x) y ≡ None) e (row_of-without-same rs x forest.distinct) in
      let bad : false ≡ true = rw none at is in cc)
  | inr ne ↦ rw (row_of-without-other rs x c ne) at is
]

-- marks and destructors make no context
pub contexts-same : (rs rs' : List Row) → SameRows rs rs' → NoMoreContexts rs rs'
contexts-same rs rs' e c is = each (row_of rs c) (row_of rs' c) refl refl (rows-same rs rs' e c)
  where
    each : (p q : Option Row) → row_of rs c ≡ p → row_of rs' c ≡ q → option_map bare q ≡ option_map bare p → is_context_row (row_of rs c) ≡ true
    each p None a b f = let bad : false ≡ true = rw b at is in cc
    each None (Some s) a b f = cc
    each (Some r) (Some s) a b f =
        let was : is_context s.kind ≡ true = rw b at is in
        let kinds : s.kind ≡ r.kind = ap kind_in f in
        rw a (ap is_context (sym kinds) ∙ was)
      where
        kind_in : Option Row → Kind
        kind_in None = r.kind
        kind_in (Some q) = q.kind

-- ---- a step of a free

after-both : (rs mid rs' : List Row) → NoMoreContexts rs mid → SameRows mid rs' → NoMoreContexts rs rs'
after-both rs mid rs' n e c is = n c (contexts-same mid rs' e c is)

found : (rs : List Row) (x : Obj) → is_row rs x ≡ true → (r : Row) × (row_of rs x ≡ Some r)
found rs x is = each (row_of rs x) refl
  where
    each : (o : Option Row) → row_of rs x ≡ o → (r : Row) × (row_of rs x ≡ Some r)
    each None e = let bad : false ≡ true = rw e at is in cc
    each (Some r) e = (r, e)

pub contexts-told : (told : FreeStep) (rs rs' : List Row) → IsForest rs → ChangedBy told rs rs' → NoMoreContexts rs rs'
contexts-told (Ask x) rs rs' forest e = contexts-same rs rs' e
contexts-told (Prepare x) rs rs' forest e = contexts-same rs rs' e
contexts-told (Drain x) rs rs' forest e = contexts-same rs rs' e
contexts-told (Dropped r target) rs rs' forest e = after-both rs (without rs r) rs' (contexts-without rs r forest) e.1
contexts-told (Refused x v) rs rs' forest e = contexts-same rs rs' e
contexts-told (Accepted x) rs rs' forest e = contexts-same rs rs' e
contexts-told (Doom x) rs rs' forest e = contexts-same rs rs' e
contexts-told (Left x from) rs rs' forest e = after-both rs (changed left_row rs x) rs' (contexts-changed left_row rs x (λ r. refl) (λ r. refl)) e.1
contexts-told (Moved x from o) rs rs' forest e = let r = found rs x e.1.is in after-both rs (placed_rows rs o x) rs' (contexts-placed (of_rows rs 0) o x r.0 r.1) e.2
contexts-told (Gone x h) rs rs' forest e = after-both rs (without rs x) rs' (contexts-without rs x forest) e.2
contexts-told (Done a) rs rs' forest e = contexts-same rs rs' e

-- what is no more is no context
gone-none : (rs rs' : List Row) (x : Obj) → IsForest rs → SameRows (without rs x) rs' → is_context_row (row_of rs' x) ≡ true → false ≡ true
gone-none rs rs' x forest e is =
    let was = contexts-same (without rs x) rs' e x is in
    let none = row_of-without-same rs x forest.distinct in
    rw none at was

pub holds-told : (told : FreeStep) (rs rs' : List Row) (a a' : Agenda) → IsForest rs → ChangedBy told rs rs' → HoldsContexts rs a → KeepsAllBut (gone_by (Some told)) a a' → HoldsContexts rs' a'
holds-told told rs rs' a a' forest e h k c is = k.held c (other told e) (h c (contexts-told told rs rs' forest e c is))
  where
    apart : (x : Obj) → SameRows (without rs x) rs' → is_other (Some x) c ≡ true
    apart x e' = by_test (same x c)
        (λ t. let bad = gone-none rs rs' x forest e' (subst (λ (y : Obj). is_context_row (row_of rs' y) ≡ true) (sym (same-true x c t)) is) in cc)
        (λ t. rw t refl)

    other : (t : FreeStep) → ChangedBy t rs rs' → is_other (gone_by (Some t)) c ≡ true
    other (Gone x g) e' = apart x e'.2
    other (Dropped r target) e' = apart r e'.1
    other _ e' = refl
