-- What holds where a test is passed.
use Rattle.std.specs.Prelude.{◌≡◌, ◌+◌, ◌^◌, ◌≤◌, ◌<◌, true, false, List, [], ◌∷◌, length, Some, None}
use Rattle.tree_specs.specs.declared.object.Obj.{Obj}
use Rattle.tree_specs.specs.declared.object.Owner.{Owner}
use Rattle.tree_specs.specs.declared.object.Owner.TheVariants.{Of}
use Rattle.tree_specs.specs.declared.row.Row.{Row}
use Rattle.tree_specs.specs.declared.test.Test.{Test}
use Rattle.tree_specs.specs.declared.test.Test.TheVariants.{IsSmall, IsObject, IsOwner, IsPlain, IsImmediate, IsDescriptor, IsRequest, IsQueue, IsContext, IsMovable, IsReferable, IsOpen, IsUnwatched, HasRoom, HasNumber, IsInProgress, IsFinished, MayFail, Fits, MayGrow, IsNotDying, IsNotGoing, IsNotDoomed, IsNotRunning, IsNotInside, IsUnheld, IsUnreferenced, IsInterested, MayGive}
use Rattle.tree_specs.specs.Tree.Targets.{target_of}
use Rattle.tree_specs.specs.Tree.Pool.{Pool, row_of, is_context_row, is_usable_row, is_owner, is_below, owner_of, newest_ref_of, is_dying, is_inside}
use Rattle.tree_specs.specs.Tree.Reports.{count_refs}
use Rattle.tree_specs.specs.Events.Rotation.{is_watched}
use Rattle.tree_specs.specs.Calls.Refusals.{size_limit, row_limit, is_plain_row, is_immediate_row, is_descriptor_row, is_request_row, is_queue_row, is_entry_row, is_referable_row, in_progress, finished, failing, is_open, is_held, is_going, is_doomed, is_running, fits, growing}
use Rattle.tree_specs.specs.Words.Objects.{same, first_context}

-- an interest is an owner's, or of one that has a reference
pub data Interest (p : Pool) (o : Owner) (x : Obj) : Type 0 where
  AsOwner : is_below (owner_of p.rows x) o ≡ true → Interest p o x
  AsHolder : (r : Obj) → is_below (owner_of p.rows x) o ≡ false → newest_ref_of p.rows o x ≡ Some r → Interest p o x

-- what an owner gives to another one: the object itself, or its newest reference to it
pub data Gives (p : Pool) (from to : Owner) (x : Obj) : Type 0 where
  Itself : is_below (owner_of p.rows x) from ≡ true → is_inside p.rows to (Of x) ≡ false → Gives p from to x
  ItsRef : (r : Obj) → is_below (owner_of p.rows x) from ≡ false → newest_ref_of p.rows from x ≡ Some r → Gives p from to x

-- the first context, or one that stays
pub data IsUsable (p : Pool) (c : Obj) : Type 0 where
  First : same c first_context ≡ true → IsUsable p c
  Stays : is_context_row (row_of p.rows c) ≡ true → is_usable_row (row_of p.rows c) ≡ true → IsUsable p c

abbrev pub Passed : Pool → Test → Type 0
Passed p (IsSmall size) = size < size_limit
Passed p (IsObject x) = (r : Row) × (row_of p.rows x ≡ Some r) × (target_of r.kind ≡ None)
Passed p (IsOwner o) = is_owner p.rows o ≡ true
Passed p (IsPlain x) = is_plain_row (row_of p.rows x) ≡ true
Passed p (IsImmediate x) = is_immediate_row (row_of p.rows x) ≡ true
Passed p (IsDescriptor x) = is_descriptor_row (row_of p.rows x) ≡ true
Passed p (IsRequest x) = is_request_row (row_of p.rows x) ≡ true
Passed p (IsQueue x) = is_queue_row (row_of p.rows x) ≡ true
Passed p (IsContext c) = IsUsable p c
Passed p (IsMovable x) = is_entry_row (row_of p.rows x) ≡ false
Passed p (IsReferable x) = is_referable_row (row_of p.rows x) ≡ true
Passed p (IsOpen fd) = is_open p fd ≡ true
Passed p (IsUnwatched fd) = is_watched p.ring fd ≡ false
Passed p (HasRoom k) = (length p.rows + k ≤ row_limit) × (p.next + k < 2 ^ 64)
Passed p HasNumber = p.next + 1 < 2 ^ 64
Passed p (IsInProgress x) = in_progress p x ≡ []
Passed p (IsFinished x) = finished p x ≡ []
Passed p (MayFail x error) = failing p x error ≡ []
Passed p (Fits o wanted) = fits p o wanted ≡ []
Passed p (MayGrow x size) = growing p x size ≡ []
Passed p (IsNotDying x) = is_dying p.rows x ≡ false
Passed p (IsNotGoing x) = is_going p x ≡ false
Passed p (IsNotDoomed x) = is_doomed p x ≡ false
Passed p (IsNotRunning x) = is_running p x ≡ false
Passed p (IsNotInside x o) = is_inside p.rows o (Of x) ≡ false
Passed p (IsUnheld x) = is_held p x ≡ false
Passed p (IsUnreferenced x) = count_refs p.rows x ≡ 0
Passed p (IsInterested o x) = Interest p o x
Passed p (MayGive from to x) = Gives p from to x

abbrev pub AllPassed : Pool → List Test → Type 0
AllPassed p [] = Unit {0}
AllPassed p (t ∷ ts) = Passed p t × AllPassed p ts
