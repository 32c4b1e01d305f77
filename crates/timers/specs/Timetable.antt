-- The times as their callers see them.
use Rattle.std.specs.Prelude.{◌≡◌, ℕ, false, List, [], ◌∷◌, Option, Some, None}
use Rattle.tree_specs.specs.declared.due.Due.{Due}
use Rattle.tree_specs.specs.declared.object.Obj.{Obj}
use Rattle.tree_specs.specs.Events.Pending.{comes_before, is_armed, disarmed}

pub record Timetable : Type 0 where
  -- the times of all contexts, the first one first
  pub dues : List Due
  -- the contexts beside the first one
  pub contexts : List Obj
  -- so many can be added without taking memory, in whatever context
  pub spare : ℕ
  -- so many contexts can be added without taking memory
  pub contexts_spare : ℕ

-- none of these comes before it
abbrev pub NoneBefore : Due → List Due → Type 0
NoneBefore d [] = Unit {0}
NoneBefore d (e ∷ es) = (comes_before e d ≡ false) × NoneBefore d es

-- in the order of time, and at equal times of number
abbrev pub AreInOrder : List Due → Type 0
AreInOrder [] = Unit {0}
AreInOrder (d ∷ ds) = NoneBefore d ds × AreInOrder ds

-- each object has one time
abbrev pub AreOnce : List Due → Type 0
AreOnce [] = Unit {0}
AreOnce (d ∷ ds) = (is_armed ds d.object ≡ false) × AreOnce ds

-- those that are left once this one has come, if one has
abbrev pub left_after : Option Due → List Due → List Due
left_after None ds = ds
left_after (Some d) ds = disarmed ds d.object

-- the number of each is that of its object
abbrev pub AreByObject : List Due → Type 0
AreByObject [] = Unit {0}
AreByObject (d ∷ ds) = (d.number ≡ d.object.0) × AreByObject ds
