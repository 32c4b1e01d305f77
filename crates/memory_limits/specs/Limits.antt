-- Limits as their callers see them, and the sums that are kept beside them.
use Rattle.std.specs.Prelude.{◌≡◌, ℕ, zero, suc, ◌+◌, ◌-◌, ◌^◌, min, ◌<◌, List, [], ◌∷◌, length, map as each, if◌then◌else◌, not, is_some, ◌⊎◌, Option, Some, None}
use Rattle.std.specs.List.{AllByRecursion, filter, find}
use Rattle.std.specs.Ordering.{nat_cmp}
use Rattle.std.specs.FinMap as map
use Rattle.tree_specs.specs.declared.object.Obj.{Obj}
use Rattle.tree_specs.specs.declared.object.Owner.{Owner}
use Rattle.tree_specs.specs.declared.object.Owner.TheVariants.{Root, Of}
use Rattle.tree_specs.specs.declared.row.Row.{Row}
use Rattle.tree_specs.specs.Words.Objects.{same}
use Rattle.tree_specs.specs.Tree.Pool.{is_inside, owner_of, target_at}
use Rattle.tree_specs.specs.Tree.Sums.{sum_inside, limit_at}
use Rattle.memory_limits.specs.declared.allowance.Allowance.{Allowance}
use Rattle.memory_limits.specs.declared.change.Change.{Change}
use Rattle.memory_limits.specs.declared.limited.Limited.{Limited}

pub record Limits : Type 0 where
  -- the objects with a limit
  pub limited : List Limited
  -- so many can be added without taking memory
  pub spare : ℕ

-- the limit of an object, where 0 is none
abbrev pub limit_of : List Limited → Obj → ℕ
limit_of [] x = 0
limit_of (l ∷ ls) x = if same l.object x then l.limit else limit_of ls x

-- all but this object
abbrev pub unlimited : List Limited → Obj → List Limited
unlimited ls x = filter (λ l. not (same l.object x)) ls

-- an object and its limit
abbrev pub bound_of : Limited → Obj × ℕ
bound_of l = (l.object, l.limit)

-- the same objects have the same limits
abbrev pub SameBounds : List Limited → List Limited → Type 0
SameBounds old new = each bound_of new ≡ each bound_of old

-- who is named here has a limit
abbrev pub AllBound : List Limited → Type 0
AllBound ls = AllByRecursion (λ l. 0 < l.limit) ls

-- each kept sum is that of what is inside
abbrev pub AllSums : List Limited → List Row → Type 0
AllSums ls rs = AllByRecursion (λ l. l.sum ≡ sum_inside rs (Of l.object)) ls

-- an object counts nowhere but for itself: it has left its owner, or is a reference
abbrev pub HasLeft : List Row → Obj → Type 0
HasLeft rs x = (owner_of rs x ≡ None) ⊎ ((target : Obj) × (target_at rs x ≡ Some target))

-- the limits are those of the rows, and the sums are kept
pub record AreLimitsOf (ls : List Limited) (rs : List Row) : Type 0 where
  pub limits : (x : Obj) → limit_of ls x ≡ limit_at rs x
  pub bound : AllBound ls
  pub sums : AllSums ls rs

-- a sum after a change; it ends at the greatest number
abbrev pub summed : Change → ℕ → ℕ
summed change sum = min ((sum - change.less) + change.more) (2 ^ 64 - 1)

-- what one object counts
abbrev pub counts_at : Change → Obj → Limited → Limited
counts_at change x l = if same x l.object then record l { sum = summed change l.sum } else l

-- what an owner is inside of counts more, or less
abbrev pub counts : Change → List Row → Owner → Limited → Limited
counts change rs o l = if is_inside rs o (Of l.object) then record l { sum = summed change l.sum } else l

-- ---- what is kept under the number of each object

abbrev pub limited_at : ℕ → Allowance → Limited
limited_at number a = record { object = record { 0 = number }; limit = a.limit; sum = a.sum }

abbrev pub listed : map.FinMap nat_cmp Allowance → List Limited
listed m = each (λ e. limited_at e.0 e.1) (map.entries m)

-- ---- looking up

-- an object among those with a limit
abbrev pub found : List Limited → Obj → Option Limited
found ls x = find (λ l. same l.object x) ls

-- the sum that is kept of this object, if one is, is that of what is inside
abbrev pub IsKeptSum : List Limited → List Row → Obj → Type 0
IsKeptSum ls rs x = (l : Limited) → found ls x ≡ Some l → l.sum ≡ sum_inside rs (Of x)

-- the nearest with a limit of an owner and those above it, in at most n steps
abbrev pub nearest_in : ℕ → List Limited → List Row → Option Owner → Option Obj
nearest_in n ls rs None = None
nearest_in n ls rs (Some Root) = None
nearest_in zero ls rs (Some (Of x)) = None
nearest_in (suc n) ls rs (Some (Of x)) = if is_some (found ls x) then Some x else nearest_in n ls rs (owner_of rs x)

abbrev pub nearest_limited : List Limited → List Row → Owner → Option Obj
nearest_limited ls rs o = nearest_in (suc (length rs)) ls rs (Some o)
