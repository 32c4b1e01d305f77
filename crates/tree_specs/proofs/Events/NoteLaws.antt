-- What is kept of requests, where a note is put in, taken out or changed; and what the rows of requests weigh by it.
use Rattle.std.proofs.Common.{◌≡◌, ◌≢◌, ◌+◌, ◌≤◌, true, false, List, [], ◌∷◌, Option, Some, None, refl, sym, ap, ◌∙◌, arith}
use Rattle.tree_specs.specs.declared.object.Obj.{Obj}
use Rattle.tree_specs.specs.declared.request.Note.{Note}
use Rattle.tree_specs.specs.declared.request.State.TheVariants.{Received}
use Rattle.tree_specs.specs.declared.row.Row.{Row}
use Rattle.tree_specs.specs.Words.Objects.{same}
use Rattle.tree_specs.specs.Tree.Pool.{row_of}
use Rattle.tree_specs.specs.Tree.Inside.{total}
use Rattle.tree_specs.specs.Events.Requests.{Notes, note_of, is_unreceived, with_note, without_note, renoted, in_state}
use Rattle.tree_specs.specs.Invariants.Measure.{note_weight, weight}
use Rattle.tree_specs.proofs.Tree.Numbered.{by_test, same-true, same-equal, same-false}
use Rattle.tree_specs.proofs.Events.EntryLaws.{with-same, with-other, without-same, without-other}

-- ---- one note

pub noted-same : (ns : Notes) (x : Obj) (n : Note) → note_of (with_note ns x n) x ≡ Some n
noted-same ns x n = with-same ns x x n (same-equal x x refl)

pub noted-other : (ns : Notes) (x y : Obj) (n : Note) → x ≢ y → note_of (with_note ns x n) y ≡ note_of ns y
noted-other ns x y n ne = with-other ns x y n (same-false y x (λ e. ne (sym e)))

pub forgotten-same : (ns : Notes) (x : Obj) → note_of (without_note ns x) x ≡ None
forgotten-same ns x = without-same ns x x (same-equal x x refl)

pub forgotten-other : (ns : Notes) (x y : Obj) → x ≢ y → note_of (without_note ns x) y ≡ note_of ns y
forgotten-other ns x y ne = without-other ns x y (same-false y x (λ e. ne (sym e)))

pub renoted-same : (g : Note → Note) (ns : Notes) (x : Obj) (n : Note) → note_of ns x ≡ Some n → note_of (renoted g ns x) x ≡ Some (g n)
renoted-same g ns x n e = rw e (noted-same ns x (g n))

pub renoted-none : (g : Note → Note) (ns : Notes) (x : Obj) → note_of ns x ≡ None → note_of (renoted g ns x) x ≡ None
renoted-none g ns x e = rw (e, e) refl

pub renoted-other : (g : Note → Note) (ns : Notes) (x y : Obj) → x ≢ y → note_of (renoted g ns x) y ≡ note_of ns y
renoted-other g ns x y ne = each (note_of ns x) refl
  where
    each : (o : Option Note) → note_of ns x ≡ o → note_of (renoted g ns x) y ≡ note_of ns y
    each None e = rw e refl
    each (Some n) e = rw e (noted-other ns x y (g n) ne)

-- ---- what all rows weigh

pub note_weight-most : (ns : Notes) (r : Row) → note_weight ns r ≤ 1
note_weight-most ns r = by_test (is_unreceived (note_of ns r.serial)) (λ t. rw t (omega arith)) (λ t. rw t (omega arith))

-- so it is of each object
abbrev pub NoHeavier : Notes → Notes → Type 0
NoHeavier ms ns = (y : Obj) → is_unreceived (note_of ms y) ≡ true → is_unreceived (note_of ns y) ≡ true

row-lighter : (ms ns : Notes) (r : Row) → (is_unreceived (note_of ms r.serial) ≡ true → is_unreceived (note_of ns r.serial) ≡ true) → note_weight ms r ≤ note_weight ns r
row-lighter ms ns r h = by_test (is_unreceived (note_of ms r.serial))
    (λ t. rw (t, h t) (omega arith))
    (λ t. rw t (omega arith))

pub total-lighter : (ms ns : Notes) (rs : List Row) → NoHeavier ms ns → total (weight ms) rs ≤ total (weight ns) rs
total-lighter ms ns [] h = omega arith
total-lighter ms ns (r ∷ rs) h = let ih = total-lighter ms ns rs h in let one = row-lighter ms ns r (h r.serial) in omega (arith, ih, one)

-- a row of this number is lighter
pub total-received : (ms ns : Notes) (rs : List Row) (x : Obj) (r : Row) → NoHeavier ms ns → row_of rs x ≡ Some r → is_unreceived (note_of ms x) ≡ false → is_unreceived (note_of ns x) ≡ true
    → total (weight ms) rs + 1 ≤ total (weight ns) rs
total-received ms ns [] x r h e now before = cc
total-received ms ns (s ∷ rs) x r h e now before = by_test (same s.serial x)
    (λ t. let is : s.serial ≡ x = same-true s.serial x t in
    let now' : is_unreceived (note_of ms s.serial) ≡ false = rw is now in
    let before' : is_unreceived (note_of ns s.serial) ≡ true = rw is before in
    let others = total-lighter ms ns rs h in
    let light : note_weight ms s ≡ 0 = rw now' refl in
    let heavy : note_weight ns s ≡ 1 = rw before' refl in
    omega (arith, others, light, heavy))
    (λ t. let e' : row_of rs x ≡ Some r = rw t at e in
    let ih = total-received ms ns rs x r h e' now before in
    let one = row-lighter ms ns s (h s.serial) in
    omega (arith, ih, one))

-- a note that is no row's weighs nothing
pub total-unowned : (ns : Notes) (rs : List Row) (x : Obj) (n : Note) → row_of rs x ≡ None → total (weight (with_note ns x n)) rs ≤ total (weight ns) rs
total-unowned ns [] x n e = omega arith
total-unowned ns (s ∷ rs) x n e = by_test (same s.serial x)
    (λ t. let bad : Some s ≡ None = rw t at e in cc)
    (λ t. let e' : row_of rs x ≡ None = rw t at e in
    let ih = total-unowned ns rs x n e' in
    let ne : x ≢ s.serial = (λ q. let u : same s.serial x ≡ true = same-equal s.serial x (sym q) in let bad : true ≡ false = sym u ∙ t in cc) in
    let is : note_of (with_note ns x n) s.serial ≡ note_of ns s.serial = noted-other ns x s.serial n ne in
    let one = row-lighter (with_note ns x n) ns s (λ h. rw is at h) in
    omega (arith, ih, one))

pub forgotten-lighter : (ns : Notes) (x : Obj) → NoHeavier (without_note ns x) ns
forgotten-lighter ns x y h = by_test (same y x)
    (λ t. let none : note_of (without_note ns x) y ≡ None = without-same ns x y t in let bad : false ≡ true = rw none at h in cc)
    (λ t. let is : note_of (without_note ns x) y ≡ note_of ns y = without-other ns x y t in rw is at h)

pub renoted-lighter : (g : Note → Note) (ns : Notes) (x : Obj) → ((n : Note) → note_of ns x ≡ Some n → is_unreceived (Some (g n)) ≡ true → is_unreceived (Some n) ≡ true) → NoHeavier (renoted g ns x) ns
renoted-lighter g ns x calm y h = each (note_of ns x) refl
  where
    each : (o : Option Note) → note_of ns x ≡ o → is_unreceived (note_of ns y) ≡ true
    each None e = rw e at h
    each (Some n) e = by_test (same y x)
        (λ t. let is : note_of (with_note ns x (g n)) y ≡ Some (g n) = with-same ns x y (g n) t in
        let h' : is_unreceived (note_of (with_note ns x (g n)) y) ≡ true = rw e at h in
        let h'' : is_unreceived (Some (g n)) ≡ true = rw is at h' in
        let at_x : note_of ns y ≡ Some n = ap (note_of ns) (same-true y x t) ∙ e in
        rw at_x (calm n e h''))
        (λ t. let is : note_of (with_note ns x (g n)) y ≡ note_of ns y = with-other ns x y (g n) t in
        let h' : is_unreceived (note_of (with_note ns x (g n)) y) ≡ true = rw e at h in
        rw is at h')

-- a request that is received pays for it
pub total-receive : (ns : Notes) (rs : List Row) (x : Obj) (r : Row) → row_of rs x ≡ Some r → is_unreceived (note_of ns x) ≡ true → total (weight (renoted (in_state Received) ns x)) rs + 1 ≤ total (weight ns) rs
total-receive ns rs x r e before = total-received (renoted (in_state Received) ns x) ns rs x r (renoted-lighter (in_state Received) ns x (λ n q h. cc)) e (now (note_of ns x) refl) before
  where
    now : (o : Option Note) → note_of ns x ≡ o → is_unreceived (note_of (renoted (in_state Received) ns x) x) ≡ false
    now None e = rw (renoted-none (in_state Received) ns x e) refl
    now (Some n) e = rw (renoted-same (in_state Received) ns x n e) refl
