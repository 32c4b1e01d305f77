-- A turn in which nothing came: what was to come before it, and what it was told.
use Rattle.std.specs.Prelude.{false, ◌≡◌, ℕ, ◌<◌, ◌≤◌, true, List, [], ◌∷◌, Some, None}
use Rattle.tree_specs.specs.declared.bounds.TheConstants.{TIME_LIMIT}
use Rattle.tree_specs.specs.declared.due.Due.{Due}
use Rattle.tree_specs.specs.declared.question.Input.{Input}
use Rattle.tree_specs.specs.declared.question.Input.TheVariants.{Clock, Ready}
use Rattle.tree_specs.specs.declared.wants.Want.{Want}
use Rattle.tree_specs.specs.declared.object.Obj.{Obj}
use Rattle.tree_specs.specs.Words.Wants.{is_wants}
use Rattle.tree_specs.specs.Events.Pending.{first}
use Rattle.tree_specs.specs.Events.Rotation.{first_ready}
use Rattle.tree_specs.specs.Tree.Pool.{Pool, soon_here, times_here, ring_here}
use Rattle.tree_specs.specs.Calls.Refusals.{is_doomed}

-- the context whose turn is under way isn't to be freed after it
abbrev pub Remains : Pool → Type 0
Remains p = (c : Obj) → p.turning ≡ Some c → is_doomed p c ≡ false

-- the clock tells a time at which this one has not come
pub record IsEarly (d : Due) (now : ℕ) : Type 0 where
  pub time : now ≤ TIME_LIMIT
  pub before : now < d.time

-- no event waits for what these descriptors are ready for
pub record NobodyReady (p : Pool) (ready : List Want) : Type 0 where
  pub sound : is_wants ready ≡ true
  pub none : first_ready (ring_here p) ready ≡ None

-- Nothing was to come soon, and these inputs brought nothing.
pub data NothingCame (p : Pool) : List Input → Type 0 where
  -- no event has a time
  Untimed : (ready : List Want) → first (soon_here p) ≡ None → first (times_here p) ≡ None → NobodyReady p ready → NothingCame p (Ready ready ∷ [])
  -- the first time has not come, and then some descriptors are ready
  Unwatched : (d : Due) (now : ℕ) (w : Want) (ready : List Want) → first (soon_here p) ≡ None → first (times_here p) ≡ Some d → IsEarly d now → NobodyReady p (w ∷ ready) → NothingCame p (Clock now ∷ Ready (w ∷ ready) ∷ [])
  -- the first time has not come after a wait either, in which no descriptor was ready
  Early : (d : Due) (now later : ℕ) → first (soon_here p) ≡ None → first (times_here p) ≡ Some d → IsEarly d now → IsEarly d later → NothingCame p (Clock now ∷ Ready [] ∷ Clock later ∷ [])
