-- The rules as tests are the rules of orderly stories.
use Rattle.std.proofs.Common.{◌≡◌, ℕ, ◌<◌, ◌≤◌, Bool, true, false, cond, eqb, ltb, not, ◌&&◌, ◌||◌, List, [], ◌∷◌, Option, Some, None, refl, sym, ap, ◌∙◌, arith}
use Rattle.std.specs.Prelude.{if◌then◌else◌}
use Rattle.std.specs.List.{list_any}
use Rattle.std.proofs.lemmas.Bool.Decides.{nat_tests}
use Rattle.std.proofs.lemmas.Bool.{eqb-true}
use Rattle.step_machine.specs.Open.{LastIs}
use Rattle.tree_specs.specs.declared.object.Obj.{Obj}
use Rattle.tree_specs.specs.declared.object.Owner.TheVariants.{Root, Of}
use Rattle.tree_specs.specs.declared.question.Ask.TheVariants.{Routine}
use Rattle.tree_specs.specs.declared.reply.Reply.TheVariants.{No}
use Rattle.tree_specs.specs.declared.reply.Refusal.TheVariants.{Refused as RefusedBy}
use Rattle.tree_specs.specs.declared.event.Event.TheVariants.{Replied, Fired, Accepted, Refused, Moved, Warned, Freed, Unreferenced, State}
use Rattle.tree_specs.specs.Words.Objects.{same}
use Rattle.tree_specs.specs.Rules.Items.{Item}
use Rattle.tree_specs.specs.Rules.Items.Item.{Told, Asked}
use Rattle.tree_specs.specs.Promises.Orderly.{is_hook, judges, uses, FreedOnce, DroppedOnce, RefusedJustNow, StatesGoUp, Fits}
use Rattle.tree_specs.proofs.Tree.Numbered.{same-true, same-equal}
use Rattle.text_forms.proofs.Bools.{and_true}
use Rattle.audit_rules.specs.Rules.{judged_by, used_by, has_accepted, is_freed, is_over, is_received, refuses_with, ends_with, is_judged_again, has_wrong_hook, is_freed_wrongly, is_dropped_twice, comes_after_the_end, is_refused_for_nothing, is_no_state, has_wrong_state, broken}

or_false : (a b : Bool) → (a || b) ≡ false → (a ≡ false) × (b ≡ false)
or_false true b h = absurd cc
or_false false b h = (refl, h)

or_nothing : (a : Bool) → (a || false) ≡ a
or_nothing true = refl
or_nothing false = refl

or_true : (a : Bool) → (a || true) ≡ true
or_true true = refl
or_true false = refl

not_false : (a : Bool) → not a ≡ false → a ≡ true
not_false true h = refl
not_false false h = absurd cc

same_itself : (x : Obj) → same x x ≡ true
same_itself x = same-equal x x refl

-- ---- the objects of an item

-- whether it is one of these
abbrev is_among : List Obj → Obj → Bool
is_among xs x = list_any (λ y. same y x) xs

judged_are : (item : Item) (x : Obj) → judges x item ≡ is_among (judged_by item) x
judged_are (Asked (Routine m)) x = by_hook (is_hook m.what)
  where
    by_hook : (b : Bool) → ((b && same m.object x) || false) ≡ is_among (cond b (m.object ∷ []) []) x
    by_hook true = refl
    by_hook false = refl
judged_are (Told (Accepted y)) x = refl
judged_are (Told (Refused y v)) x = sym (or_nothing (same y x))
judged_are _ x = refl

used_are : (item : Item) (x : Obj) → uses x item ≡ is_among (used_by item) x
used_are (Told (Fired what y routine)) x = sym (or_nothing (same y x))
used_are (Told (Moved y Root)) x = refl
used_are (Told (Moved y (Of z))) x = ap (λ b. same y x || b) (sym (or_nothing (same z x)))
used_are (Told (Warned y)) x = sym (or_nothing (same y x))
used_are (Told (State y s)) x = sym (or_nothing (same y x))
used_are (Told (Unreferenced reference target)) x = sym (or_nothing (same target x))
used_are (Told (Accepted y)) x = judged_are (Told (Accepted y)) x
used_are (Told (Refused y v)) x = judged_are (Told (Refused y v)) x
used_are (Asked q) x = judged_are (Asked q) x
used_are _ x = refl

-- where a test passes for none of these objects, it fails for each
each_fails : (test : Obj → Bool) (xs : List Obj) → list_any test xs ≡ false → (x : Obj) → is_among xs x ≡ true → test x ≡ false
each_fails test [] h x e = absurd cc
each_fails test (y ∷ ys) h x e = by_test (same y x) refl e (each_fails test ys both.1 x)
  where
    both : (test y ≡ false) × (list_any test ys ≡ false)
    both = or_false (test y) (list_any test ys) h

    by_test : (b : Bool) → same y x ≡ b → (b || is_among ys x) ≡ true → (is_among ys x ≡ true → test x ≡ false) → test x ≡ false
    by_test true is e more = sym (ap test (same-true y x is)) ∙ both.0
    by_test false is e more = more e

none_passes : (test : Obj → Bool) (xs : List Obj) → ((x : Obj) → is_among xs x ≡ true → test x ≡ false) → list_any test xs ≡ false
none_passes test [] h = refl
none_passes test (y ∷ ys) h = rw (h y (rw (same_itself y) refl), none_passes test ys (λ x e. h x (rw e (or_true (same y x))))) refl

-- ---- 2: what is freed

right_hook : (accepted : Bool) (hook : ℕ) → has_wrong_hook accepted hook ≡ false → accepted ≡ not (eqb hook 0)
right_hook true hook e = rw e refl
right_hook false hook e = sym e

wrong_hook : (accepted : Bool) (hook : ℕ) → accepted ≡ not (eqb hook 0) → has_wrong_hook accepted hook ≡ false
wrong_hook true hook e = not_true (eqb hook 0) (sym e)
  where
    not_true : (b : Bool) → not b ≡ true → b ≡ false
    not_true true e = absurd cc
    not_true false e = refl
wrong_hook false hook e = sym e

freed_is : (before : List Item) (item : Item) → is_freed_wrongly before item ≡ false → FreedOnce before item
freed_is before (Told (Freed x hook)) e =
    let both = or_false (is_freed before x) (has_wrong_hook (has_accepted before x) hook) e in
    (both.0, right_hook (has_accepted before x) hook both.1)
freed_is before _ e = tt

freed_none : (before : List Item) (item : Item) → FreedOnce before item → is_freed_wrongly before item ≡ false
freed_none before (Told (Freed x hook)) e = rw (e.0, wrong_hook (has_accepted before x) hook e.1) refl
freed_none before _ e = refl

-- ---- 3: references that are dropped

dropped_is : (before : List Item) (item : Item) → is_dropped_twice before item ≡ false → DroppedOnce before item
dropped_is before (Told (Unreferenced reference target)) e = e
dropped_is before _ e = tt

dropped_none : (before : List Item) (item : Item) → DroppedOnce before item → is_dropped_twice before item ≡ false
dropped_none before (Told (Unreferenced reference target)) e = e
dropped_none before _ e = refl

-- ---- 4: calls that are refused

refusal_is : (item : Item) (x : Obj) (v : ℕ) → refuses_with x v item ≡ true → item ≡ Told (Refused x v)
refusal_is (Told (Refused y w)) x v h =
    let both = and_true (same y x) (eqb w v) h in
    rw (same-true y x both.0, eqb-true w v both.1) refl
refusal_is _ x v h = absurd cc

same_number : (v : ℕ) → eqb v v ≡ true
same_number v = grind (arith, nat_tests)

is_the_refusal : (x : Obj) (v : ℕ) → refuses_with x v (Told (Refused x v)) ≡ true
is_the_refusal x v = rw (same_itself x, same_number v) refl

last_is : (before : List Item) (x : Obj) (v : ℕ) → ends_with (refuses_with x v) before ≡ true → LastIs (λ item. item ≡ Told (Refused x v)) before
last_is [] x v h = absurd cc
last_is (item ∷ []) x v h = refusal_is item x v h
last_is (item ∷ next ∷ rest) x v h = last_is (next ∷ rest) x v h

last_passes : (before : List Item) (x : Obj) (v : ℕ) → LastIs (λ item. item ≡ Told (Refused x v)) before → ends_with (refuses_with x v) before ≡ true
last_passes [] x v h = absurd h
last_passes (item ∷ []) x v h = ap (refuses_with x v) h ∙ is_the_refusal x v
last_passes (item ∷ next ∷ rest) x v h = last_passes (next ∷ rest) x v h

refused_is : (before : List Item) (item : Item) → is_refused_for_nothing before item ≡ false → RefusedJustNow before item
refused_is before (Told (Replied (No (RefusedBy x v)))) e = last_is before x v (not_false (ends_with (refuses_with x v) before) e)
refused_is before _ e = tt

refused_none : (before : List Item) (item : Item) → RefusedJustNow before item → is_refused_for_nothing before item ≡ false
refused_none before (Told (Replied (No (RefusedBy x v)))) e = rw (last_passes before x v e) refl
refused_none before _ e = refl

-- ---- 5: states

state_in : (s : ℕ) → is_no_state s ≡ false → (2 ≤ s) × (s ≤ 6)
state_in s h = let both = or_false (ltb s 2) (ltb 6 s) h in (low both.0, high both.1)
  where
    low : ltb s 2 ≡ false → 2 ≤ s
    low e = grind (arith, nat_tests)

    high : ltb 6 s ≡ false → s ≤ 6
    high e = grind (arith, nat_tests)

state_out : (s : ℕ) → 2 ≤ s → s ≤ 6 → is_no_state s ≡ false
state_out s low high = rw (not_low, not_high) refl
  where
    not_low : ltb s 2 ≡ false
    not_low = grind (arith, nat_tests)

    not_high : ltb 6 s ≡ false
    not_high = grind (arith, nat_tests)

states_are : (before : List Item) (item : Item) → has_wrong_state before item ≡ false → StatesGoUp before item
states_are before (Told (State x s)) e =
    let first = or_false (is_no_state s) (is_received before x || (ltb s 6 && is_over before x)) e in
    let second = or_false (is_received before x) (ltb s 6 && is_over before x) first.1 in
    let in_range = state_in s first.0 in
    (in_range.0, in_range.1, second.0, λ lt. by_test (ltb s 6) (below lt) second.1)
  where
    below : s < 6 → ltb s 6 ≡ true
    below lt = grind (arith, nat_tests)

    by_test : (b : Bool) → b ≡ true → (b && is_over before x) ≡ false → is_over before x ≡ false
    by_test true h f = f
    by_test false h f = absurd cc
states_are before _ e = tt

states_none : (before : List Item) (item : Item) → StatesGoUp before item → has_wrong_state before item ≡ false
states_none before (Told (State x s)) e = rw (state_out s e.0 e.1, e.2) (by_test (ltb s 6) refl)
  where
    above : ltb s 6 ≡ true → s < 6
    above h = grind (arith, nat_tests)

    by_test : (b : Bool) → ltb s 6 ≡ b → (b && is_over before x) ≡ false
    by_test true h = e.3 (above h)
    by_test false h = refl
states_none before _ e = refl

-- ---- all of them

-- the number of the first test that passes
abbrev first_of : Bool → Bool → Bool → Bool → Bool → Option ℕ
first_of a b c d e = if a then Some 1 else if b then Some 2 else if c then Some 3 else if d then Some 4 else if e then Some 5 else None

all_hold : (a b c d e : Bool) → first_of a b c d e ≡ None → (a ≡ false) × (b ≡ false) × (c ≡ false) × (d ≡ false) × (e ≡ false)
all_hold true b c d e h = absurd cc
all_hold false true c d e h = absurd cc
all_hold false false true d e h = absurd cc
all_hold false false false true e h = absurd cc
all_hold false false false false true h = absurd cc
all_hold false false false false false h = (refl, refl, refl, refl, refl)

first_above : (a b c d e : Bool) → first_of a b c d e ≡ Some 0 → ⊥
first_above true b c d e h = absurd cc
first_above false true c d e h = absurd cc
first_above false false true d e h = absurd cc
first_above false false false true e h = absurd cc
first_above false false false false true h = absurd cc
first_above false false false false false h = absurd cc

-- the rules begin with 1
pub above_zero : (before : List Item) (item : Item) → broken before item ≡ Some 0 → ⊥
above_zero before item h = first_above (is_judged_again before item) (is_freed_wrongly before item) (comes_after_the_end before item) (is_refused_for_nothing before item) (has_wrong_state before item) h

-- an item that breaks no rule fits
pub unbroken_fits : (before : List Item) (item : Item) → broken before item ≡ None → Fits before item
unbroken_fits before item h =
    let hold = all_hold (is_judged_again before item) (is_freed_wrongly before item) (comes_after_the_end before item) (is_refused_for_nothing before item) (has_wrong_state before item) h in
    let end = or_false (list_any (is_freed before) (used_by item)) (is_dropped_twice before item) hold.2 in
    record {
      accepts_once = λ x e. each_fails (has_accepted before) (judged_by item) hold.0 x (sym (judged_are item x) ∙ e);
      freed_once = freed_is before item hold.1;
      after_the_end = λ x e. each_fails (is_freed before) (used_by item) end.0 x (sym (used_are item x) ∙ e);
      dropped_once = dropped_is before item end.1;
      refused_just_now = refused_is before item hold.3;
      states_go_up = states_are before item hold.4;
    }

-- and one that fits breaks none
pub fits_unbroken : (before : List Item) (item : Item) → Fits before item → broken before item ≡ None
fits_unbroken before item fits =
    let judged = none_passes (has_accepted before) (judged_by item) (λ x e. fits.accepts_once x (judged_are item x ∙ e)) in
    let used = none_passes (is_freed before) (used_by item) (λ x e. fits.after_the_end x (used_are item x ∙ e)) in
    rw (judged, freed_none before item fits.freed_once, used, dropped_none before item fits.dropped_once, refused_none before item fits.refused_just_now, states_none before item fits.states_go_up)
    refl
