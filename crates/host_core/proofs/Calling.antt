-- What a call begins, and what it may take of the memory for it.
use Rattle.std.proofs.Common.{◌≡◌, ◌+◌, ◌*◌, ◌≤◌, Option, Some, None, false, refl, sym, ◌∙◌, ap, arith}
use Rattle.step_machine.specs.Machine.{Move as Do}
use Rattle.tree_specs.specs.declared.frame.CallFrame.{CallFrame}
use Rattle.tree_specs.specs.declared.frame.Frame.TheVariants as frame
use Rattle.tree_specs.specs.declared.notice.Notice.{Notice}
use Rattle.tree_specs.specs.declared.question.Ask.{Ask}
use Rattle.tree_specs.specs.declared.question.Ask.TheVariants.{Quiet}
use Rattle.tree_specs.specs.Calls.Plans.{Plan, changed_by}
use Rattle.tree_specs.specs.Calls.Plans.Plan.{Does, Frees as FreesOf, Unlinks as UnlinksOf, Empties as EmptiesOf, Asks as AsksOf, Turns as TurnsOf, Works as WorksOf}
use Rattle.tree_specs.specs.Machine.Table.{plan_step}
use Rattle.tree_specs.specs.Tree.Pool.{Pool, enter}
use Rattle.tree_specs.specs.Words.Objects.{same, first_context}
use Rattle.tree_specs.specs.declared.object.Obj.{Obj}
use Rattle.tree_specs.specs.declared.row.Mark.TheVariants.{Busy}
use Rattle.tree_specs.proofs.Tree.Numbered.{by_test}
use Rattle.host_core.proofs.Draining.{marked-fewer}
use Rattle.tree_specs.proofs.Calls.Plans.{May}
use Rattle.requests.specs.Register.{AreInOrder}
use Rattle.host_core.specs.Places.{owed}
use Rattle.host_core.specs.declared.active.Active.TheVariants as active
use Rattle.host_core.specs.declared.step.Step.{Step}
use Rattle.host_core.specs.declared.step.Step.TheVariants.{Goes}
use Rattle.host_core.specs.Steps.{step_of, IsBusy}
use Rattle.host_core.specs.Going.{step_places}
use Rattle.host_core.specs.Hosts.{speaks}
use Rattle.host_core.proofs.StepPools.{pool_in, pool-left}
use Rattle.host_core.proofs.Unreceived.{change-counted}

-- ---- its places

-- a caller takes none
caller-takes : (step : Step) (f : CallFrame) (p q : Pool) → IsBusy step → step_of step p ≡ Do.Go (frame.Call f) q → step_places step ≡ 0
caller-takes (Goes (active.Caller c)) f p q b e = refl
caller-takes (Goes active.Freeing) f p q b e = absurd b
caller-takes (Goes (active.Turning t)) f p q b e = cc
caller-takes (Goes (active.Reaching r)) f p q b e = refl
caller-takes (Goes (active.Requesting w)) f p q b e = cc
caller-takes _ f p q b e = cc

-- the objects after a plan
abbrev pub planned_pool : Ask → Plan → Pool → Pool
planned_pool q (Does c notice r) p = changed_by c p
planned_pool q (WorksOf c errand x) p = changed_by c p
planned_pool Quiet (TurnsOf c) p = enter p c
planned_pool q plan p = p

-- it tells and asks nothing, and leaves these objects
pub plan-steps : (q : Ask) (plan : Plan) (p : Pool) → (speaks (plan_step q plan p) ≡ false) × (pool_in (plan_step q plan p) ≡ planned_pool q plan p)
plan-steps q (Does c None r) p = (refl, refl)
plan-steps q (Does c (Some notice) r) p = (refl, refl)
plan-steps q (FreesOf x) p = (refl, refl)
plan-steps q (UnlinksOf owner x) p = (refl, refl)
plan-steps q (EmptiesOf x) p = (refl, refl)
plan-steps q (AsksOf outside) p = (refl, refl)
plan-steps Quiet (TurnsOf c) p = (refl, refl)
plan-steps _ (TurnsOf c) p = (refl, refl)
plan-steps q (WorksOf c errand x) p = (refl, refl)

-- a context whose turn begins is no queue that a free may come to
entered : (c : Obj) (p : Pool) → owed (enter p c) ≤ owed p
entered c p = by_test (same c first_context)
    (λ t. rw t (omega arith))
    (λ t. rw t (let n = marked-fewer Busy p.rows c refl in omega (arith, n)))

-- what a call begins has the places that were taken for it
pub call-room : (q : Ask) (step : Step) (plan : Plan) (old new : Pool) → May old plan → AreInOrder old.requests → IsBusy step → step_places step ≤ 4 → step_of step new ≡ plan_step q plan old → step_places step + 2 * owed new ≤ 4 + 2 * owed old
call-room q step plan old new may order busy most e = each plan may e (sym (pool-left step new) ∙ ap pool_in e ∙ (plan-steps q plan old).1)
  where
    -- with as much to come
    as-much : new ≡ old → step_places step + 2 * owed new ≤ 4 + 2 * owed old
    as-much same = let counts = ap owed same in omega (arith, most, counts)

    each : (plan : Plan) → May old plan → step_of step new ≡ plan_step q plan old → new ≡ planned_pool q plan old → step_places step + 2 * owed new ≤ 4 + 2 * owed old
    each (Does c notice r) may e same =
        let few = (change-counted c old order may.0).few in
        let adds = may.1 in
        let counts = ap owed same in
        let none = takes notice e in
        omega (arith, few, adds, counts, none)
      where
        takes : (notice : Option Notice) → step_of step new ≡ plan_step q (Does c notice r) old → step_places step ≡ 0
        takes None e = caller-takes step _ new (changed_by c old) busy e
        takes (Some n) e = caller-takes step _ new (changed_by c old) busy e
    each (WorksOf c errand x) may e same =
        let few = (change-counted c old order may.0).few in
        let adds = may.1 in
        let counts = ap owed same in
        omega (arith, few, adds, counts, most)
    each (FreesOf x) may e same = as-much same
    each (UnlinksOf owner x) may e same = as-much same
    each (EmptiesOf x) may e same = as-much same
    each (AsksOf outside) may e same = as-much same
    each (TurnsOf c) may e same = enters q same
      where
        enters : (q : Ask) → new ≡ planned_pool q (TurnsOf c) old → step_places step + 2 * owed new ≤ 4 + 2 * owed old
        enters Quiet same = let n = entered c old in let counts = ap owed same in omega (arith, most, counts, n)
        enters _ same = as-much same
