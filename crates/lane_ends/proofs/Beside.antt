-- What a change of one lane leaves of all, where the first stands beside the others.
use Rattle.std.proofs.Common.{◌≡◌, ◌≢◌, ℕ, Bool, true, false, cond, nat_eq, Option, Some, None, refl, sym, ap, ◌∙◌}
use Rattle.std.proofs.lemmas.Bool.{eqb-true}
use Rattle.std.specs.FinMap as map
use Rattle.pool_arena.specs.Arena.{with_entry}
use Rattle.pool_arena.proofs.Keeps.{get-with_entry, same_pairs}
use Rattle.linked_lanes.specs.declared.lane.Extent.{Extent}
use Rattle.linked_lanes.proofs.Lanes.{by_test, eqb-false}
use Rattle.lane_ends.specs.Lanes.{Lanes, lanes_of, without_lane}

pub not_first : (x : ℕ) → x ≢ 0 → nat_eq 0 x ≡ false
not_first x h = eqb-false 0 x (λ e. h (sym e))

module _ (f : Extent) (m : Lanes) where
  pub get-lanes : (q : ℕ) → map.get (lanes_of f m) q ≡ cond (nat_eq 0 q) (Some f) (map.get m q)
  get-lanes q = get-with_entry m 0 (Some f) q

  pub get-first : (x : ℕ) → x ≡ 0 → map.get (lanes_of f m) x ≡ Some f
  get-first x e = ap (map.get (lanes_of f m)) e ∙ get-lanes 0

  pub get-other : (x : ℕ) → x ≢ 0 → map.get (lanes_of f m) x ≡ map.get m x
  get-other x h = let t : nat_eq 0 x ≡ false = not_first x h in rw t at (get-lanes x)

  -- a lane that isn't there is not the first
  pub unknown-other : (x : ℕ) → map.get (lanes_of f m) x ≡ None → x ≢ 0
  unknown-other x n e = let bad : None ≡ Some f = sym n ∙ get-first x e in cc

  pub set-first : (x : ℕ) (e : Extent) → x ≡ 0 → lanes_of e m ≡ map.insert (lanes_of f m) x e
  set-first x e is = same_pairs _ _ (λ q.
      get-with_entry m 0 (Some e) q ∙ sym (get-with_entry (lanes_of f m) x (Some e) q
      ∙ ap (λ (y : ℕ). cond (nat_eq y q) (Some e) (map.get (lanes_of f m) q)) is
      ∙ ap (cond (nat_eq 0 q) (Some e)) (get-lanes q) ∙ go (nat_eq 0 q) (map.get m q)))
    where
      go : (b : Bool) (o : Option Extent) → cond b (Some e) (cond b (Some f) o) ≡ cond b (Some e) o
      go true o = refl
      go false o = refl

  -- a lane beside the first is put in another way, or goes
  pub set-other : (x : ℕ) (o : Option Extent) → x ≢ 0 → lanes_of f (with_entry m x o) ≡ with_entry (lanes_of f m) x o
  set-other x o h = same_pairs _ _ (λ q.
      get-with_entry (with_entry m x o) 0 (Some f) q ∙ ap (cond (nat_eq 0 q) (Some f)) (get-with_entry m x o q)
      ∙ swap q (map.get m q) ∙ sym (get-with_entry (lanes_of f m) x o q ∙ ap (cond (nat_eq x q) o) (get-lanes q)))
    where
      swap : (q : ℕ) (g : Option Extent) → cond (nat_eq 0 q) (Some f) (cond (nat_eq x q) o g) ≡ cond (nat_eq x q) o (cond (nat_eq 0 q) (Some f) g)
      swap q g = by_test (nat_eq 0 q)
          (λ t. let u : nat_eq x q ≡ false = ap (nat_eq x) (sym (eqb-true 0 q t)) ∙ eqb-false x 0 h in rw (t, u) refl)
          (λ t. rw t refl)

  drop-first : (x : ℕ) → nat_eq x 0 ≡ true → lanes_of f (with_entry m x None) ≡ lanes_of f m
  drop-first x t = same_pairs _ _ (λ q.
      get-with_entry (with_entry m x None) 0 (Some f) q ∙ ap (cond (nat_eq 0 q) (Some f)) (get-with_entry m x None q)
      ∙ covered q (map.get m q) ∙ sym (get-lanes q))
    where
      covered : (q : ℕ) (g : Option Extent) → cond (nat_eq 0 q) (Some f) (cond (nat_eq x q) None g) ≡ cond (nat_eq 0 q) (Some f) g
      covered q g = by_test (nat_eq 0 q)
          (λ u. rw u refl)
          (λ u. let n : nat_eq x q ≡ false = ap (λ (y : ℕ). nat_eq y q) (eqb-true x 0 t) ∙ u in rw (u, n) refl)

  pub drop-lane : (x : ℕ) → lanes_of f (with_entry m x None) ≡ without_lane (lanes_of f m) x
  drop-lane x = by_test (nat_eq x 0)
      (λ t. rw t (drop-first x t))
      (λ t. rw t (set-other x None (λ e. let bad : true ≡ false = sym (ap (λ (y : ℕ). nat_eq y 0) e) ∙ t in cc)))
