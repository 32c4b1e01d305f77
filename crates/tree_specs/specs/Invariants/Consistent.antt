-- What holds of a host at every moment.
use Rattle.std.specs.Prelude.{ℕ, ◌+◌, ◌≤◌, List, [], ◌∷◌, Some, None, is_some, if◌then◌else◌}
use Rattle.tree_specs.specs.declared.question.Ask.{Ask}
use Rattle.tree_specs.specs.declared.question.Ask.TheVariants as asks
use Rattle.tree_specs.specs.declared.row.Row.{Row}
use Rattle.tree_specs.specs.declared.row.Mark.{Mark}
use Rattle.tree_specs.specs.declared.frame.Frame.{Frame}
use Rattle.tree_specs.specs.declared.kind.Kind.{Kind}
use Rattle.tree_specs.specs.Tree.Pool.{Pool}
use Rattle.tree_specs.specs.Tree.Inside.{total}
use Rattle.tree_specs.specs.Invariants.Sound.{Sound}
use Rattle.tree_specs.specs.Invariants.Noted.{Noted, AllCalm}
use Rattle.tree_specs.specs.Invariants.Queued.{Queued}
use Rattle.tree_specs.specs.Invariants.Awaiting.{Awaits}
use Rattle.tree_specs.specs.Machine.View.{View}
use Rattle.tree_specs.specs.Machine.Profiles.{phase_in, Role, Calls, Frees, Turns, Requests, Waits, ARun, ATurn, AHandler, ARequest, APrepared, AServed, ARoutine, profile}

-- ---- which work may stand on which

abbrev pub IsQuiet : Ask → Type 0
IsQuiet asks.Quiet = Unit {0}
IsQuiet _ = ⊥

abbrev pub IsOfRoutine : Ask → Type 0
IsOfRoutine (asks.Routine m) = Unit {0}
IsOfRoutine _ = ⊥

abbrev pub TurnsFor : Role → Type 0
TurnsFor Turns = Unit {0}
TurnsFor _ = ⊥

abbrev pub CallsFor : Role → Type 0
CallsFor (Calls (Some q)) = IsQuiet q
CallsFor _ = ⊥

abbrev pub RunsFor : Role → Type 0
RunsFor (Calls (Some q)) = IsOfRoutine q
RunsFor (Calls None) = Unit {0}
RunsFor _ = ⊥

abbrev pub FreesFor : Role → Type 0
FreesFor (Frees x) = Unit {0}
FreesFor _ = ⊥

abbrev pub RequestsFor : Role → Type 0
RequestsFor Requests = Unit {0}
RequestsFor _ = ⊥

-- the host's own caller, which never ends
abbrev pub IsCaller : Frame → Type 0
IsCaller f = CallsFor (profile f).role

-- a routine that runs
abbrev pub IsRun : Frame → Type 0
IsRun f = RunsFor (profile f).role

abbrev pub IsFree : Frame → Type 0
IsFree f = FreesFor (profile f).role

abbrev pub IsTurn : Frame → Type 0
IsTurn f = TurnsFor (profile f).role

abbrev pub IsWork : Frame → Type 0
IsWork f = RequestsFor (profile f).role

-- the kinds of work that another one waits for
pub data Server : Type 0 where
  ByRun : Server
  ByTurn : Server
  ByRequest : Server
  ByFree : Server

abbrev pub server : Waits → Server
server (ARun x h) = ByRun
server (AHandler x) = ByRun
server ATurn = ByTurn
server ARequest = ByRequest
server (APrepared x) = ByRequest
server (AServed x) = ByRequest
server (ARoutine x) = ByRun
server _ = ByFree

abbrev pub IsBy : Server → Frame → Type 0
IsBy ByRun f = IsRun f
IsBy ByTurn f = IsTurn f
IsBy ByRequest f = IsWork f
IsBy ByFree f = IsFree f

-- what stands on a work that waits
abbrev pub Serves : Waits → Frame → Type 0
Serves w f = IsBy (server w) f

-- the host's own caller stands below all others, a run on the free, the turn or the request that waits for it, a turn on its
-- call, the work of a request on the call, the free or the turn that waits for it, and a free on whatever waits for it
abbrev pub MayStandOn : Frame → List Frame → Type 0
MayStandOn f [] = IsCaller f
MayStandOn f (g ∷ gs) = Serves (profile g).waits f

abbrev pub IsStacked : Frame → List Frame → Type 0
IsStacked f [] = MayStandOn f []
IsStacked f (g ∷ gs) = MayStandOn f (g ∷ gs) × IsStacked g gs

-- The open works are no more than the rows that run or die pay for, so that the turns stay enough.

abbrev pub size : Frame → ℕ
size f = (profile f).size

abbrev pub innermost_size : Frame → ℕ
innermost_size f = (profile f).top_size

abbrev pub sizes : List Frame → ℕ
sizes [] = 0
sizes (f ∷ fs) = size f + sizes fs

abbrev pub mark_deposit : Kind → Mark → ℕ
mark_deposit k m = if is_some (phase_in k m) then 3 else 0

abbrev pub deposit : Row → ℕ
deposit r = mark_deposit r.kind r.mark

abbrev pub IsPaidFor : Frame → List Frame → Pool → Type 0
IsPaidFor f fs p = innermost_size f + sizes fs ≤ total deposit p.rows + 2

pub record IsConsistent (v : View) : Type 0 where
  pub sound : Sound v.innermost v.below v.pool
  pub seated : IsStacked v.innermost v.below
  pub light : IsPaidFor v.innermost v.below v.pool
  pub noted : Noted v.innermost v.pool
  pub queued : Queued v.innermost v.below v.pool
  pub calm : AllCalm (v.innermost ∷ v.below)
  pub awaits : Awaits v.pool
