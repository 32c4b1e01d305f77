-- What a change of one node leaves of the neighbours and of how each event watches.
use Rattle.std.proofs.Common.{◌≡◌, ℕ, Bool, true, false, cond, nat_eq, Option, Some, None, is_some, refl, sym, ap, ◌∙◌}
use Rattle.std.proofs.lemmas.Bool.{eqb-true}
use Rattle.std.specs.Option.{option_map}
use Rattle.std.specs.Ordering.{nat_cmp}
use Rattle.std.specs.FinMap as map
use Rattle.tree_specs.specs.declared.watch.Watch.{Watch}
use Rattle.linked_lanes.specs.declared.Sides.{Sides}
use Rattle.linked_lanes.specs.declared.Link.{Link}
use Rattle.linked_lanes.specs.Chain.{noted}
use Rattle.linked_lanes.proofs.Lanes.{by_test}
use Rattle.fd_events.specs.declared.node.Node.{Node}
use Rattle.fd_events.specs.Linked.{numbered, sides_of, stamp_of, sides_at, stamp_at, watch_at, watching}

abbrev pub with_link : Link → Node → Node
with_link link v = record v { sides = noted link v.sides }

abbrev pub with_place : Sides → ℕ → Node → Node
with_place s stamp v = record v { sides = s; stamp = stamp }

module _ {X Y : Type 0} (p : X → Y) (f : X → X) where
  -- what is read of a value that changes, where the change shows in it
  pub read-changed : (g : Y → Y) → ((v : X) → p (f v) ≡ g (p v)) → (b : Bool) (o : Option X) → option_map p (cond b (option_map f o) o) ≡ cond b (option_map g (option_map p o)) (option_map p o)
  read-changed g h true None = refl
  read-changed g h true (Some v) = ap Some (h v)
  read-changed g h false o = refl

  -- and where it doesn't
  pub read-same : ((v : X) → p (f v) ≡ p v) → (b : Bool) (o : Option X) → option_map p (cond b (option_map f o) o) ≡ option_map p o
  read-same h true None = refl
  read-same h true (Some v) = ap Some (h v)
  read-same h false o = refl

-- an event watches as its own
pub tells : (m : map.FinMap nat_cmp Node) (q : ℕ) (w : Watch) → watch_at m q ≡ Some w → w.object ≡ numbered q
tells m q w e = go (map.get m q) e
  where
    go : (o : Option Node) → option_map (watching q) o ≡ Some w → w.object ≡ numbered q
    go None e = cc
    go (Some v) e = let is : watching q v ≡ w = cc in ap (λ (u : Watch). u.object) (sym is)

-- one that is there has neighbours
pub there-sides : (m : map.FinMap nat_cmp Node) (q : ℕ) → is_some (watch_at m q) ≡ true → (s : Sides) × (sides_at m q ≡ Some s)
there-sides m q e = go (map.get m q) e
  where
    go : (o : Option Node) → is_some (option_map (watching q) o) ≡ true → (s : Sides) × (option_map sides_of o ≡ Some s)
    go None e = cc
    go (Some v) e = (v.sides, refl)

-- and a stamp
pub there-stamp : (m : map.FinMap nat_cmp Node) (q : ℕ) → is_some (watch_at m q) ≡ true → (s : ℕ) × (stamp_at m q ≡ Some s)
there-stamp m q e = go (map.get m q) e
  where
    go : (o : Option Node) → is_some (option_map (watching q) o) ≡ true → (s : ℕ) × (option_map stamp_of o ≡ Some s)
    go None e = cc
    go (Some v) e = (v.stamp, refl)

-- a node that is put under a number, or taken from it
module _ (m m' : map.FinMap nat_cmp Node) (x : ℕ) (o : Option Node) (changed : (q : ℕ) → map.get m' q ≡ cond (nat_eq x q) o (map.get m q)) where
  pub sides-put : (q : ℕ) → nat_eq x q ≡ false → sides_at m' q ≡ sides_at m q
  sides-put q n = ap (option_map sides_of) (rw n at (changed q))

  pub stamp-put : (q : ℕ) → nat_eq x q ≡ false → stamp_at m' q ≡ stamp_at m q
  stamp-put q n = ap (option_map stamp_of) (rw n at (changed q))

  pub watch-put : (q : ℕ) → watch_at m' q ≡ cond (nat_eq x q) (option_map (watching x) o) (watch_at m q)
  watch-put q = ap (option_map (watching q)) (changed q) ∙ by_test (nat_eq x q)
      (λ t. rw t (ap (λ (y : ℕ). option_map (watching y) o) (sym (eqb-true x q t))))
      (λ t. rw t refl)
