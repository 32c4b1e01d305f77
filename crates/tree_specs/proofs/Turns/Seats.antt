-- Which work may take the place of another, and what it weighs there.
use Rattle.tree_specs.specs.declared.frame.RequestFrame.{RequestFrame}
use Rattle.tree_specs.specs.declared.frame.RequestFrame.TheVariants as request
use Rattle.std.proofs.Common.{◌≡◌, ℕ, ◌+◌, ◌≤◌, List, [], ◌∷◌, refl, arith}
use Rattle.step_machine.specs.Machine.{Move, Move as Do}
use Rattle.step_machine.proofs.Ends.{Leads}
use Rattle.tree_specs.specs.declared.call.Call.{Call}
use Rattle.tree_specs.specs.declared.question.Ask.{Ask}
use Rattle.tree_specs.specs.declared.question.Ask.TheVariants as asks
use Rattle.tree_specs.specs.declared.reply.Reply.{Reply}
use Rattle.tree_specs.specs.declared.frame.Frame.{Frame}
use Rattle.tree_specs.specs.declared.frame.Frame.TheVariants as frame
use Rattle.tree_specs.specs.declared.frame.CallFrame.TheVariants.{Doing, Awaiting, Turning, Requesting, Telling}
use Rattle.tree_specs.specs.declared.frame.TurnFrame.{TurnFrame}
use Rattle.tree_specs.specs.declared.frame.TurnFrame.TheVariants.{Parting, Taking, Handling, Clearing, Serving}
use Rattle.tree_specs.specs.declared.frame.FreeFrame.{FreeFrame}
use Rattle.tree_specs.specs.declared.frame.FreeFrame.TheVariants.{Hooked, Preparing, FreeingChild, Draining}
use Rattle.tree_specs.specs.declared.frame.Answer.{Answer}
use Rattle.tree_specs.specs.Tree.Pool.{Pool}
use Rattle.tree_specs.specs.Rules.Items.{Item}
use Rattle.tree_specs.specs.Machine.Table.{table, resume}
use Rattle.tree_specs.specs.Invariants.Sound.{AllWait}
use Rattle.tree_specs.specs.Machine.Profiles.{profile}
use Rattle.tree_specs.specs.Rules.Answers.{later}
use Rattle.tree_specs.specs.Invariants.Consistent.{IsQuiet, IsOfRoutine, IsCaller, IsRun, IsFree, IsTurn, IsWork, Server, ByRun, ByTurn, ByRequest, ByFree, server, IsBy, MayStandOn, IsStacked, size, innermost_size, IsPaidFor}
use Rattle.tree_specs.proofs.Invariants.Waiters.{ForParting, Waiter, ForFree, ForRun, ForChild, ForTurn, ForHandler, ForClear, ForRequest, ForServed, ForReceived, ForDrained, ForRoutine, ForRelease, ForEntry, waiter}

-- what a move leads to stands where it may, and is light
abbrev pub Placed : Move Frame Answer Pool Item → List Frame → ℕ → Type 0
Placed m fs k = Leads table (λ g gs q j. IsStacked g gs × IsPaidFor g gs q) m fs k

-- ---- a work in the place of another

pub reseat : (f g : Frame) (fs : List Frame) → (IsCaller f → IsCaller g) → (IsRun f → IsRun g) → (IsFree f → IsFree g) → (IsTurn f → IsTurn g) → (IsWork f → IsWork g) → IsStacked f fs → IsStacked g fs
reseat f g [] c r k t v s = c s
reseat f g (h ∷ hs) c r k t v s = (serve (server (profile h).waits) s.0, s.1)
  where
    serve : (by : Server) → IsBy by f → IsBy by g
    serve ByRun s = r s
    serve ByTurn s = t s
    serve ByRequest s = v s
    serve ByFree s = k s

pub reseat-free : (f g : FreeFrame) (fs : List Frame) → IsStacked (frame.Free f) fs → IsStacked (frame.Free g) fs
reseat-free f g fs s = reseat (frame.Free f) (frame.Free g) fs (λ c. c) (λ r. r) (λ k. tt) (λ t. t) (λ v. v) s

pub reseat-turn : (f g : TurnFrame) (fs : List Frame) → IsStacked (frame.Turn f) fs → IsStacked (frame.Turn g) fs
reseat-turn f g fs s = reseat (frame.Turn f) (frame.Turn g) fs (λ c. c) (λ r. r) (λ k. k) (λ t. t) (λ v. v) s

pub reseat-work : (f g : RequestFrame) (fs : List Frame) → IsStacked (frame.Request f) fs → IsStacked (frame.Request g) fs
reseat-work f g fs s = reseat (frame.Request f) (frame.Request g) fs (λ c. c) (λ r. r) (λ k. k) (λ t. t) (λ v. v) s

pub quiet-later : (q : Ask) (r : Reply) → IsQuiet q → IsQuiet (later q r)
quiet-later asks.Quiet r h = tt
quiet-later _ r h = absurd h

pub routine-later : (q : Ask) (r : Reply) → IsOfRoutine q → IsOfRoutine (later q r)
routine-later (asks.Routine m) r h = tt
routine-later _ r h = absurd h

pub not-both : (q : Ask) → IsQuiet q → IsOfRoutine q → ⊥
not-both asks.Quiet h k = k
not-both _ h k = h

pub reseat-told : (q : Ask) (c : Call) (r : Reply) (fs : List Frame) → IsStacked (frame.Call (Doing q c)) fs → IsStacked (frame.Call (Telling (later q r) r)) fs
reseat-told q c r fs s = reseat (frame.Call (Doing q c)) (frame.Call (Telling (later q r) r)) fs (quiet-later q r) (routine-later q r) (λ z. z) (λ z. z) (λ z. z) s

resumed-seated : (g : Frame) (gs : List Frame) (a : Answer) → Waiter g → IsStacked g gs → IsStacked (resume g a) gs
resumed-seated _ gs a (ForFree q x) s = reseat (frame.Call (Awaiting q x)) (resume (frame.Call (Awaiting q x)) a) gs (quiet-later q _) (routine-later q _) (λ z. z) (λ z. z) (λ z. z) s
resumed-seated _ gs a (ForTurn q) s = reseat (frame.Call (Turning q)) (resume (frame.Call (Turning q)) a) gs (quiet-later q _) (routine-later q _) (λ z. z) (λ z. z) (λ z. z) s
resumed-seated _ gs a (ForRequest q) s = reseat (frame.Call (Requesting q)) (resume (frame.Call (Requesting q)) a) gs (quiet-later q _) (routine-later q _) (λ z. z) (λ z. z) (λ z. z) s
resumed-seated _ gs a (ForServed x) s = reseat-turn (Serving x) _ gs s
resumed-seated _ gs a (ForReceived x) s = reseat-free (Preparing x) _ gs s
resumed-seated _ gs a (ForRoutine w x h errand) s = reseat-work (request.Called w x h errand) _ gs s
resumed-seated _ gs a (ForRelease c) s = reseat-work (request.Releasing c) _ gs s
resumed-seated _ gs a (ForDrained x) s = reseat-free (Draining x) _ gs s
resumed-seated _ gs a (ForEntry q e) s = reseat-work (request.Dropping q e) _ gs s
resumed-seated _ gs a (ForHandler w x h occasion) s = reseat-turn (Handling w x h occasion) _ gs s
resumed-seated _ gs a (ForClear x) s = reseat-turn (Clearing x) _ gs s
resumed-seated _ gs a (ForParting c v) s = reseat-turn (Parting c v) _ gs s
resumed-seated _ gs a (ForRun x h) s = reseat-free (Hooked x h) _ gs s
resumed-seated _ gs a (ForChild x c noted purpose) s = reseat-free (FreeingChild x c noted purpose) _ gs s

run-size : (f : Frame) → IsRun f → innermost_size f ≡ 2
run-size (frame.Call f) r = refl
run-size _ r = absurd r

pub turn-least : (f : TurnFrame) → 2 ≤ innermost_size (frame.Turn f)
turn-least Taking = omega arith
turn-least _ = omega arith

turn-size : (f : Frame) → IsTurn f → 2 ≤ innermost_size f
turn-size (frame.Turn f) t = turn-least f
turn-size (frame.Outside f) t = omega arith
turn-size _ t = absurd t

work-size : (f : Frame) → IsWork f → innermost_size f ≡ 2
work-size (frame.Request f) v = refl
work-size _ v = absurd v

-- a work that goes on is no larger than it and the work that has ended
size-resume : (f g : Frame) (gs : List Frame) (a : Answer) → Waiter g → MayStandOn f (g ∷ gs) → innermost_size (resume g a) ≤ size g + innermost_size f
size-resume f _ gs a (ForFree q x) s = omega arith
size-resume f _ gs a (ForChild x c noted purpose) s = omega arith
size-resume f _ gs a (ForRun x h) s = let n = run-size f s in omega (arith, n)
size-resume f _ gs a (ForTurn q) s = let n = turn-size f s in omega (arith, n)
size-resume f _ gs a (ForRequest q) s = let n = work-size f s in omega (arith, n)
size-resume f _ gs a (ForServed x) s = let n = work-size f s in omega (arith, n)
size-resume f _ gs a (ForReceived x) s = let n = work-size f s in omega (arith, n)
size-resume f _ gs a (ForRoutine w x h errand) s = let n = run-size f s in omega (arith, n)
size-resume f _ gs a (ForRelease c) s = omega arith
size-resume f _ gs a (ForDrained x) s = let n = work-size f s in omega (arith, n)
size-resume f _ gs a (ForEntry q e) s = omega arith
size-resume f _ gs a (ForHandler w x h occasion) s = let n = run-size f s in omega (arith, n)
size-resume f _ gs a (ForClear x) s = omega arith
size-resume f _ gs a (ForParting c v) s = omega arith

-- a work that ends, over rows whose deposit is as great
pub over : (a : Answer) (f : Frame) (fs : List Frame) (p : Pool) (k : ℕ) → AllWait fs → IsStacked f fs → IsPaidFor f fs p → Placed (Do.Done a p) fs k
over a f [] p k w s l = tt
over a f (g ∷ gs) p k w s l = let waits = waiter g gs w.0 in (resumed-seated g gs a waits s.1, omega (arith, l, size-resume f g gs a waits s.0))
