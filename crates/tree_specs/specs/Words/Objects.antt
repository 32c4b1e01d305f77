-- Objects and owners, by their numbers.
use Rattle.std.specs.Prelude.{ℕ, zero, suc, Bool, true, false, nat_eq, Option, Some, None}
use Rattle.tree_specs.specs.declared.object.Obj.{Obj}
use Rattle.tree_specs.specs.declared.object.Owner.{Owner}
use Rattle.tree_specs.specs.declared.object.Owner.TheVariants.{Root, Of}

abbrev pub same : Obj → Obj → Bool
same x y = nat_eq x.0 y.0

abbrev pub same_owner : Owner → Owner → Bool
same_owner Root Root = true
same_owner Root (Of y) = false
same_owner (Of x) Root = false
same_owner (Of x) (Of y) = same x y

-- the first context, which is no object
abbrev pub first_context : Obj
first_context = record { 0 = 0 }

abbrev pub is_same : Option Obj → Obj → Bool
is_same None y = false
is_same (Some x) y = same x y

-- 0 is the root
abbrev pub owner_number : Owner → ℕ
owner_number Root = 0
owner_number (Of x) = x.0

abbrev pub numbered_owner : ℕ → Owner
numbered_owner zero = Root
numbered_owner (suc n) = Of (record { 0 = suc n })
