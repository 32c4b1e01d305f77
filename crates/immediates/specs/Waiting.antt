-- What comes soon as callers see it.
use Rattle.std.specs.Prelude.{◌≡◌, ℕ, false, List, [], ◌∷◌, Option, Some, None}
use Rattle.std.specs.Option.{option_map}
use Rattle.tree_specs.specs.declared.object.Obj.{Obj}
use Rattle.tree_specs.specs.Events.Pending.{first}
use Rattle.tree_specs.specs.declared.coming.Coming.{Coming}
use Rattle.tree_specs.specs.Events.Pending.{is_scheduled, unscheduled, soon_in}

pub record Waiting : Type 0 where
  -- in the order in which they came, so that the next one of each context stands before the others of it
  pub coming : List Coming
  -- the contexts beside the first one
  pub contexts : List Obj
  -- so many can be added without taking memory
  pub spare : ℕ
  -- so many contexts
  pub contexts_spare : ℕ

-- each object waits once
abbrev pub AreOnce : List Coming → Type 0
AreOnce [] = Unit {0}
AreOnce (y ∷ ys) = (is_scheduled ys y.object ≡ false) × AreOnce ys

-- ---- the next one

abbrev pub object_of : Coming → Obj
object_of y = y.object

-- the object that comes next in a context
abbrev pub next_in : List Coming → Obj → Option Obj
next_in xs c = option_map object_of (first (soon_in xs c))

-- those that are left once this one has come, if one has
abbrev pub left_after : Option Obj → List Coming → List Coming
left_after None xs = xs
left_after (Some x) xs = unscheduled xs x
