-- Objects as their callers see them, and what is kept of them.
use Rattle.std.specs.Prelude.{◌≡◌, true, false, ◌+◌, ◌^◌, ◌<◌, ◌≤◌, ◌⊎◌, Bool, List, length, slice_get, Option, Some, None}
use Rattle.tree_specs.specs.declared.frame.FreeFrame.{FreeFrame}
use Rattle.tree_specs.specs.declared.object.Obj.{Obj}
use Rattle.tree_specs.specs.declared.object.Owner.{Owner}
use Rattle.tree_specs.specs.declared.row.Row.{Row}
use Rattle.tree_specs.specs.Tree.Pool.{Pool, target_at, is_owner}
use Rattle.tree_links.specs.Links.{Links, pool_of, MayPlace}
use Rattle.destructors.specs.Frees.{OpenFrees, before}
use Rattle.destructors.specs.Engine.{IsPreparing}
use Rattle.object_pool.specs.Upcoming.{Upcoming, Agenda, HasPlace, beside, pending_most}

pub record Objects : Type 0 where
  pub pool : Pool
  -- the works of the open frees, the innermost first
  pub works : List FreeFrame
  -- the memory for one call is taken
  pub ready : Bool

-- all but the objects and the works stays as it was; the memory for a call is used up
abbrev pub LeavesRest : Objects → Objects → Type 0
LeavesRest old new = new ≡ record old { pool = new.pool; works = new.works; ready = false }

-- the open frees
abbrev pub frees_in : Objects → OpenFrees
frees_in o = record { works = o.works; pool = o.pool }

-- no free is open, or the innermost one waits until its request was received, or its queue has no entries
abbrev pub MayFreeOn : Option FreeFrame → Type 0
MayFreeOn None = Unit {0}
MayFreeOn innermost = IsPreparing innermost

-- the memory for a call is taken, or that for the works of a free is there
abbrev pub MayBeginFree : Objects → Type 0
MayBeginFree o = (o.ready ≡ true) ⊎ MayFreeOn (slice_get o.works 0)

-- by the parts
abbrev pub objects_of : Option FreeFrame → Links → Upcoming → Bool → Objects
objects_of engine tree upcoming ready = record { pool = beside upcoming (pool_of tree); works = before engine tree.frees; ready = ready }

-- the memory for the two rows and for the works of a call, with all that comes of it up to the next question
pub record HasCallRoom (tree : Links) : Type 0 where
  pub row : 2 ≤ tree.spare
  pub works : length tree.rows + 4 ≤ tree.room

-- the memory for one more object that waits, and one more descriptor; and those that wait can be counted, and those that may wait
-- after them
pub record MayWait (agenda : Agenda) : Type 0 where
  pub event : HasPlace agenda
  pub waiting : pending_most agenda.upcoming < 2 ^ 64

-- a reference may be put below any owner: it owns nothing, and nothing goes on with it
abbrev pub RefsMayGo : List Row → Type 0
RefsMayGo rs = (r t : Obj) (o : Owner) → target_at rs r ≡ Some t → is_owner rs o ≡ true → MayPlace rs r o
