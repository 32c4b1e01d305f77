-- Which objects wait after one is put in or taken out.
use Rattle.std.proofs.Common.{◌≡◌, ◌≢◌, ℕ, List, [], ◌∷◌, ◌++◌, true, false, refl, sym, ◌∙◌, ◌⊎◌, inl, inr}
use Rattle.std.specs.Prelude.{Bool, not, is_some}
use Rattle.std.specs.List.{find, filter}
use Rattle.tree_specs.specs.declared.object.Obj.{Obj}
use Rattle.tree_specs.specs.declared.due.Due.{Due}
use Rattle.tree_specs.specs.declared.coming.Coming.{Coming}
use Rattle.tree_specs.specs.Words.Objects.{same}
use Rattle.tree_specs.specs.Events.Pending.{is_scheduled, unscheduled, scheduled, is_armed, disarmed, comes_before, put_in, armed, soon_without, times_in, times_without}
use Rattle.tree_specs.proofs.Tree.Numbered.{by_test, same-true, same-equal}

-- two objects that differ in being the same as a third one are apart
apart : (x y z : Obj) → same z x ≡ false → same z y ≡ true → x ≢ y
apart x y z f t e = let u : same z x ≡ true = same-equal z x (same-true z y t ∙ sym e) in let bad : true ≡ false = sym u ∙ f in cc

-- what is left is another object, and was there
pub unscheduled-other : (xs : List Coming) (x y : Obj) → is_scheduled (unscheduled xs x) y ≡ true → (is_scheduled xs y ≡ true) × (x ≢ y)
unscheduled-other [] x y h = cc
unscheduled-other (z ∷ zs) x y h = by_test (same z.object x)
    (λ t. let ih = unscheduled-other zs x y (rw t at h) in by_test (same z.object y) (λ u. (rw u refl, ih.1)) (λ u. (rw u ih.0, ih.1)))
    (λ t. by_test (same z.object y)
    (λ u. (rw u refl, apart x y z.object t u))
    (λ u. let ih = unscheduled-other zs x y (rw (t, u) at h) in (rw u ih.0, ih.1)))

pushed : (xs : List Coming) (x c y : Obj) → is_scheduled (xs ++ record { object = x; context = c } ∷ []) y ≡ true → (is_scheduled xs y ≡ true) ⊎ (x ≡ y)
pushed [] x c y h = by_test (same x y) (λ u. inr (same-true x y u)) (λ u. let bad : false ≡ true = rw u at h in cc)
pushed (z ∷ zs) x c y h = by_test (same z.object y)
    (λ u. inl (rw u refl))
    (λ u. elim (pushed zs x c y (rw u at h)) [
      | inl l ↦ inl (rw u l)
      | inr e ↦ inr e
    ])

pub scheduled-either : (xs : List Coming) (x c y : Obj) → is_scheduled (scheduled xs x c) y ≡ true → (is_scheduled xs y ≡ true) ⊎ (x ≡ y)
scheduled-either xs x c y h = elim (pushed (unscheduled xs x) x c y h) [
  | inl l ↦ inl (unscheduled-other xs x y l).0
  | inr e ↦ inr e
]

pub disarmed-other : (ds : List Due) (x y : Obj) → is_armed (disarmed ds x) y ≡ true → (is_armed ds y ≡ true) × (x ≢ y)
disarmed-other [] x y h = cc
disarmed-other (d ∷ ds) x y h = by_test (same d.object x)
    (λ t. let ih = disarmed-other ds x y (rw t at h) in by_test (same d.object y) (λ u. (rw u refl, ih.1)) (λ u. (rw u ih.0, ih.1)))
    (λ t. by_test (same d.object y)
    (λ u. (rw u refl, apart x y d.object t u))
    (λ u. let ih = disarmed-other ds x y (rw (t, u) at h) in (rw u ih.0, ih.1)))

put : (d : Due) (es : List Due) (y : Obj) → is_armed (put_in d es) y ≡ true → (is_armed es y ≡ true) ⊎ (d.object ≡ y)
put d [] y h = by_test (same d.object y) (λ u. inr (same-true d.object y u)) (λ u. let bad : false ≡ true = rw u at h in cc)
put d (e ∷ es) y h = by_test (comes_before d e)
    (λ t. by_test (same d.object y) (λ u. inr (same-true d.object y u)) (λ u. inl (rw (t, u) at h)))
    (λ t. by_test (same e.object y)
    (λ u. inl (rw u refl))
    (λ u. elim (put d es y (rw (t, u) at h)) [
      | inl l ↦ inl (rw u l)
      | inr q ↦ inr q
    ]))

pub armed-either : (ds : List Due) (x : Obj) (time number : ℕ) (c y : Obj) → is_armed (armed ds x time number c) y ≡ true → (is_armed ds y ≡ true) ⊎ (x ≡ y)
armed-either ds x time number c y h = elim (put (record { time = time; number = number; object = x; context = c }) (disarmed ds x) y h) [
  | inl l ↦ inl (disarmed-other ds x y l).0
  | inr e ↦ inr e
]

-- ---- of those that pass a test

fewer : {A : Type 0} (q keep : A → Bool) (xs : List A) → is_some (find q (filter keep xs)) ≡ true → is_some (find q xs) ≡ true
fewer q keep [] h = h
fewer q keep (x ∷ xs) h = by_test (q x)
    (λ u. rw u refl)
    (λ u. rw u (fewer q keep xs (by_test (keep x) (λ t. rw (t, u) at h) (λ t. rw t at h))))

-- what comes soon without a context came soon before, and what has a time had one
pub without-scheduled : (xs : List Coming) (c y : Obj) → is_scheduled (soon_without xs c) y ≡ true → is_scheduled xs y ≡ true
without-scheduled xs c y h = fewer (λ (z : Coming). same z.object y) (λ (z : Coming). not (same z.context c)) xs h

pub without-armed : (ds : List Due) (c y : Obj) → is_armed (times_without ds c) y ≡ true → is_armed ds y ≡ true
without-armed ds c y h = fewer (λ (d : Due). same d.object y) (λ (d : Due). not (same d.context c)) ds h

-- and what has one in a context has one
pub within-armed : (ds : List Due) (c y : Obj) → is_armed (times_in ds c) y ≡ true → is_armed ds y ≡ true
within-armed ds c y h = fewer (λ (d : Due). same d.object y) (λ (d : Due). same d.context c) ds h
