-- The walk over the rotation, from the oldest on.
use Rattle.std.proofs.Common.{◌≡◌, ℕ, ◌≤◌, true, false, nat_eq, List, [], ◌∷◌, ◌++◌, length, Option, Some, None, is_some, slice_get, refl, sym, ap, ◌∙◌, arith, append_assoc}
use Rattle.std.specs.Option.{option_map}
use Rattle.std.proofs.lemmas.Bool.{eqb-true}
use Rattle.std.proofs.lemmas.List.{append-nil}
use Rattle.tree_specs.specs.declared.object.Obj.{Obj}
use Rattle.tree_specs.specs.declared.watch.Watch.{Watch}
use Rattle.tree_specs.specs.Words.Objects.{same}
use Rattle.tree_specs.specs.Events.Rotation.{watch_of}
use Rattle.linked_lanes.specs.Lane.{has, before, before_from, last, last_from, Distinct}
use Rattle.linked_lanes.proofs.Lanes.{by_test, not_both, eqb-self}
use Rattle.fd_events.specs.Linked.{numbered, listed_one, listed, from_on}

module _ (W : ℕ → Option Watch) (tells : (q : ℕ) (w : Watch) → W q ≡ Some w → w.object ≡ numbered q) where
  -- at one that isn't in the lane the walk is past it
  passes : (xs : List ℕ) (q : ℕ) (end : List Watch) → has xs q ≡ false → from_on (listed W xs ++ end) (Some (numbered q)) ≡ from_on end (Some (numbered q))
  passes [] q end out = refl
  passes (y ∷ ys) q end out = by_test (nat_eq y q)
      (λ t. let bad : true ≡ false = rw t at out in cc)
      (λ t. let out' : has ys q ≡ false = rw t at out in
      ap (λ us. from_on us (Some (numbered q))) (append_assoc (listed W ys) (listed_one (W y)) end) ∙ passes ys q (listed_one (W y) ++ end) out' ∙ one t (W y) (tells y))
    where
      one : nat_eq y q ≡ false → (o : Option Watch) → ((w : Watch) → o ≡ Some w → w.object ≡ numbered y) → from_on (listed_one o ++ end) (Some (numbered q)) ≡ from_on end (Some (numbered q))
      one t None h = refl
      one t (Some w) h = let is : same w.object (numbered q) ≡ false = ap (λ (z : Obj). same z (numbered q)) (h w refl) ∙ t in rw is refl

  -- it begins at one
  begins : (y : ℕ) (o : Option Watch) (end : List Watch) → W y ≡ o → is_some o ≡ true → from_on (listed_one o ++ end) (Some (numbered y)) ≡ listed_one o ++ end
  begins y None end e s = cc
  begins y (Some w) end e s = let is : same w.object (numbered y) ≡ true = ap (λ (z : Obj). same z (numbered y)) (tells y w e) ∙ eqb-self y in rw is refl

  from-last : (xs : List ℕ) (p : Option ℕ) (end : List Watch) → ((q : ℕ) → has xs q ≡ true → is_some (W q) ≡ true) → from_on end (option_map numbered p) ≡ end
      → from_on (listed W xs ++ end) (option_map numbered (last_from p xs)) ≡ listed W xs ++ end
  from-last [] p end there start = start
  from-last (y ∷ ys) p end there start =
      ap (λ us. from_on us (option_map numbered (last_from (Some y) ys))) (append_assoc (listed W ys) (listed_one (W y)) end)
      ∙ from-last ys (Some y) (listed_one (W y) ++ end) (λ q m. there q (by_test (nat_eq y q) (λ t. rw t refl) (λ t. rw t m))) (begins y (W y) end refl (there y (rw (eqb-self y) refl)))
      ∙ sym (append_assoc (listed W ys) (listed_one (W y)) end)

  reaches : (xs : List ℕ) (p : Option ℕ) (end : List Watch) (x : ℕ) (w : Watch) → Distinct xs → has xs x ≡ true → W x ≡ Some w → ((q : ℕ) → has xs q ≡ true → is_some (W q) ≡ true)
      → from_on end (option_map numbered p) ≡ end → ((q : ℕ) → p ≡ Some q → has xs q ≡ false)
      → from_on (listed W xs ++ end) (Some (numbered x)) ≡ w ∷ from_on (listed W xs ++ end) (option_map numbered (before_from p xs x))
  reaches [] p end x w d m e there start out = not_both m refl
  reaches (y ∷ ys) p end x w d m e there start out = by_test (nat_eq y x)
      (λ t. let yx = eqb-true y x t in
      let own : W y ≡ Some w = ap W yx ∙ e in
      rw t (ap (λ us. from_on us (Some (numbered x))) (append_assoc (listed W ys) (listed_one (W y)) end)
      ∙ passes ys x (listed_one (W y) ++ end) (ap (has ys) (sym yx) ∙ d.0)
      ∙ ap (λ o. from_on (listed_one o ++ end) (Some (numbered x))) own ∙ own-first
      ∙ ap (λ us. w ∷ us) (sym (rest p start out))))
      (λ t. let m' : has ys x ≡ true = rw t at m in
      rw t (ap (λ us. from_on us (Some (numbered x))) (append_assoc (listed W ys) (listed_one (W y)) end)
      ∙ reaches ys (Some y) (listed_one (W y) ++ end) x w d.1 m' e (λ q n. there q (by_test (nat_eq y q) (λ u. rw u refl) (λ u. rw u n)))
      (begins y (W y) end refl (there y (rw (eqb-self y) refl)))
      (λ q f. let yq : y ≡ q = cc in ap (has ys) (sym yq) ∙ d.0)
      ∙ ap (λ us. w ∷ from_on us (option_map numbered (before_from (Some y) ys x))) (sym (append_assoc (listed W ys) (listed_one (W y)) end))))
    where
      own-first : from_on (w ∷ end) (Some (numbered x)) ≡ w ∷ end
      own-first = let is : same w.object (numbered x) ≡ true = ap (λ (z : Obj). same z (numbered x)) (tells x w e) ∙ eqb-self x in rw is refl

      rest : (p : Option ℕ) → from_on end (option_map numbered p) ≡ end → ((q : ℕ) → p ≡ Some q → has (y ∷ ys) q ≡ false) → from_on (listed W (y ∷ ys) ++ end) (option_map numbered p) ≡ end
      rest None s f = s
      rest (Some q) s f = passes (y ∷ ys) q end (f q refl) ∙ s

  module _ (xs : List ℕ) (ws : List Watch) (list : listed W xs ≡ ws) (there : (q : ℕ) → is_some (W q) ≡ has xs q) where
    whole : listed W xs ++ [] ≡ ws
    whole = append-nil (listed W xs) ∙ list

    -- all of them, from the oldest on
    pub from-oldest : from_on ws (option_map numbered (last xs)) ≡ ws
    from-oldest =
        ap (λ us. from_on us (option_map numbered (last xs))) (sym whole) ∙ from-last xs None [] (λ q m. there q ∙ m) refl ∙ whole

    -- one that watches, and those behind it
    pub from-one : (x : ℕ) (w : Watch) → Distinct xs → W x ≡ Some w → from_on ws (Some (numbered x)) ≡ w ∷ from_on ws (option_map numbered (before xs x))
    from-one x w d e =
        ap (λ us. from_on us (Some (numbered x))) (sym whole)
        ∙ reaches xs None [] x w d (sym (there x) ∙ ap is_some e) e (λ q m. there q ∙ m) refl (λ q f. cc)
        ∙ ap (λ us. w ∷ from_on us (option_map numbered (before xs x))) whole

    -- one that watches nothing
    pub from-none : (x : ℕ) → W x ≡ None → from_on ws (Some (numbered x)) ≡ []
    from-none x e = ap (λ us. from_on us (Some (numbered x))) (sym whole) ∙ passes xs x [] (sym (there x) ∙ ap is_some e)

-- ---- the first

from-shorter : (ws : List Watch) (x : Obj) → length (from_on ws (Some x)) ≤ length ws
from-shorter [] x = omega arith
from-shorter (w ∷ ws) x = let ih = from-shorter ws x in by_test (same w.object x) (λ t. rw t (omega arith)) (λ t. rw t (omega (arith, ih)))

pub first-there : (ws : List Watch) (x : Obj) → from_on ws (Some x) ≡ ws → watch_of ws x ≡ slice_get ws 0
first-there [] x e = refl
first-there (w ∷ ws) x e = by_test (same w.object x)
    (λ t. rw t refl)
    (λ t. let e' : from_on ws (Some x) ≡ w ∷ ws = rw t at e in
    let l = ap length e' in let s = from-shorter ws x in absurd (omega (arith, l, s)))
