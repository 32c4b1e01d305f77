-- What is read of a node that changes.
use Rattle.std.proofs.Common.{◌≡◌, Bool, true, false, cond, Option, Some, None, refl, ap}
use Rattle.std.specs.Option.{option_map}
use Rattle.linked_lanes.specs.declared.Link.{Link}
use Rattle.linked_lanes.specs.Chain.{noted}
use Rattle.immediates.specs.declared.node.Node.{Node}

abbrev pub with_link : Link → Node → Node
with_link link v = record v { sides = noted link v.sides }

module _ {X : Type 0} (p : Node → X) (f : Node → Node) where
  -- where the change shows
  pub read-changed : (g : X → X) → ((v : Node) → p (f v) ≡ g (p v)) → (b : Bool) (o : Option Node) → option_map p (cond b (option_map f o) o) ≡ cond b (option_map g (option_map p o)) (option_map p o)
  read-changed g h true None = refl
  read-changed g h true (Some v) = ap Some (h v)
  read-changed g h false o = refl

  -- and where it doesn't
  pub read-same : ((v : Node) → p (f v) ≡ p v) → (b : Bool) (o : Option Node) → option_map p (cond b (option_map f o) o) ≡ option_map p o
  read-same h true None = refl
  read-same h true (Some v) = ap Some (h v)
  read-same h false o = refl
