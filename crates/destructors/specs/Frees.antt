-- The open frees, one move after another. The works of all frees stand in one list, the innermost first; each begin stands on the free
-- whose destructor runs, whose request is received, or whose queue's entries are freed.
use Rattle.std.specs.Prelude.{◌≡◌, ℕ, Bool, true, false, ◌&&◌, List, [], ◌∷◌, Option, Some, None, is_some, is_none, unwrap_or, if◌then◌else◌}
use Rattle.step_machine.specs.Machine.{Move as Do}
use Rattle.tree_specs.specs.declared.frame.FreeFrame.{FreeFrame}
use Rattle.tree_specs.specs.declared.frame.FreeFrame.TheVariants.{Hooked, Preparing, Draining, Prepared}
use Rattle.tree_specs.specs.declared.free_step.FreeReply.{FreeReply}
use Rattle.tree_specs.specs.declared.free_step.FreeStep.{FreeStep}
use Rattle.tree_specs.specs.declared.free_step.FreeStep.TheVariants.{Doom, Left, Done}
use Rattle.tree_specs.specs.declared.object.Obj.{Obj}
use Rattle.tree_specs.specs.declared.watch.Watch.{Watch}
use Rattle.tree_specs.specs.declared.row.Mark.{Mark}
use Rattle.tree_specs.specs.declared.row.Mark.TheVariants as mark
use Rattle.tree_specs.specs.Tree.Targets.{newest_ref}
use Rattle.tree_specs.specs.Tree.Pool.{Pool, row_of, passes}
use Rattle.tree_specs.specs.Machine.FreeTable.{FreeMove, free_step, free_resume, free_taken}
use Rattle.tree_specs.specs.Machine.Table.{event_of}
use Rattle.tree_links.specs.Links.{Links, pool_of}

pub record OpenFrees : Type 0 where
  pub works : List FreeFrame
  pub pool : Pool

-- the innermost work is the engine's, and those that wait for it are the tree's
abbrev pub before : Option FreeFrame → List FreeFrame → List FreeFrame
before None fs = fs
before (Some f) fs = f ∷ fs

abbrev pub frees_of : Option FreeFrame → Links → OpenFrees
frees_of innermost t = record { works = before innermost t.frees; pool = pool_of t }

-- it waits for no free, but for the run of a destructor, until a request was received, or until the entries of a queue are freed
abbrev pub awaits_run : FreeFrame → Bool
awaits_run (Hooked x h) = true
awaits_run (Preparing x) = true
awaits_run (Draining x) = true
awaits_run f = false

-- what a free answers goes to the work below it; where that waits for no free, or there is none, the begin is over
abbrev pub answered : FreeReply → Pool → List FreeFrame → Option FreeStep × OpenFrees
answered a p [] = (Some (Done a), record { works = []; pool = p })
answered a p (f ∷ fs) = if awaits_run f then (Some (Done a), record { works = f ∷ fs; pool = p }) else (None, record { works = free_resume f a ∷ fs; pool = p })

-- what a move tells, and the frees after it
abbrev pub moved : FreeMove → List FreeFrame → Option FreeStep × OpenFrees
moved (Do.Done a p) fs = answered a p fs
moved (Do.Go f p) fs = (None, record { works = f ∷ fs; pool = p })
moved (Do.Emit t f p) fs = (Some t, record { works = f ∷ fs; pool = p })
moved (Do.Wait t f p) fs = (Some t, record { works = f ∷ fs; pool = p })
moved (Do.Call g f p) fs = (None, record { works = g ∷ f ∷ fs; pool = p })

-- the next move of the innermost free
abbrev pub moves : List FreeFrame → Pool → Option FreeStep × OpenFrees
moves [] p = (None, record { works = []; pool = p })
moves (f ∷ fs) p = moved (free_step f p) fs

abbrev pub next_of : OpenFrees → Option FreeStep × OpenFrees
next_of s = moves s.works s.pool

-- what is told is an event of the host, by what is watched
abbrev pub is_event : List Watch → Option FreeStep → Bool
is_event ring None = false
is_event ring (Some t) = is_some (event_of ring t)

-- an object to which there is no reference is busy, so that its freeing begins by dooming it
abbrev pub is_busy_mark : Mark → Bool
is_busy_mark mark.Busy = true
is_busy_mark m = false

abbrev pub dooms : Pool → Obj → Bool
dooms p x = is_none (newest_ref p.rows x) && passes (λ r. is_busy_mark r.mark) (row_of p.rows x)

-- the object that a step lets go of: it leaves its owner, or is to go once its handler is over
abbrev pub let_go_by : Option FreeStep → Option Obj
let_go_by (Some (Left x from)) = Some x
let_go_by (Some (Doom x)) = Some x
let_go_by told = None

-- the destructor that the innermost free waits for has returned a number
abbrev pub returned : ℕ → OpenFrees → List FreeFrame
returned v s = judged v s.works
  where
    judged : ℕ → List FreeFrame → List FreeFrame
    judged v [] = []
    judged v (f ∷ fs) = unwrap_or (free_taken f s.pool v) f ∷ fs

-- what comes before the freeing of the request or the queue that the innermost free waits for is over
abbrev pub was_prepared : FreeFrame → FreeFrame
was_prepared (Preparing x) = Prepared x
was_prepared (Draining x) = Prepared x
was_prepared f = f

abbrev pub prepared : List FreeFrame → List FreeFrame
prepared [] = []
prepared (f ∷ fs) = was_prepared f ∷ fs

-- moves that tell nothing
pub data Silently (s : OpenFrees) : OpenFrees → Type 0 where
  Still : Silently s s
  On : (t u : OpenFrees) → Silently s t → next_of t ≡ (None, u) → Silently s u

-- the next move tells something, or no free is open
abbrev pub speaks : List FreeFrame → Option FreeStep → Bool
speaks [] told = true
speaks (f ∷ fs) None = false
speaks (f ∷ fs) (Some t) = true

abbrev pub speaking : OpenFrees → Bool
speaking s = speaks s.works (next_of s).0

-- What a step tells is what the next move tells, and after it come the moves that tell nothing.
pub record Steps (old : OpenFrees) (told : FreeStep) (new : OpenFrees) : Type 0 where
  pub tells : (next_of old).0 ≡ Some told
  pub moves_on : Silently (next_of old).1 new
  pub settles : speaking new ≡ true

-- A free that has begun, or was answered, has made the moves that tell nothing.
pub record Begins (works : List FreeFrame) (pool : Pool) (new : OpenFrees) : Type 0 where
  pub moves_on : Silently (record { works = works; pool = pool }) new
  pub settles : speaking new ≡ true
