use Rattle.std.proofs.Common.{◌≡◌, Option, Some, refl, sym, ap, subst, ◌∙◌}
use Rattle.tree_specs.specs.declared.free_step.FreeStep.{FreeStep}
use Rattle.tree_specs.specs.Machine.Table.{event_of}
use Rattle.destructors.specs.Frees.{OpenFrees, frees_of, let_go_by, next_of, Steps}
use Rattle.object_pool.specs.Objects.{Objects, frees_in}
use Rattle.object_pool.specs.Upcoming.{MayForget, after, closed_of, frees_beside, upcoming_in}
use Rattle.object_pool.proofs.Beside.{next-beside, steps-beside}
use Rattle.object_pool.proofs.Fewer.{told-unreceived}
use Rattle.object_pool.proofs.Hosted.{holds-usable}
use Rattle.object_pool.proofs.Keeping.{stepped}
use Rattle.object_pool.proofs.Onward.{after-both, contexts-both, forgets-later, places-both, steps-go_on}
use Rattle.object_pool.proofs.Opening.{at_work-inside, settled-inside}
use Rattle.object_pool.proofs.pool.ObjectPool.step.Goals as goal

pub let_go_next-closed-requires-clause-settled : goal.let_go_next-closed-requires-clause-settled
let_go_next-closed-requires-clause-settled c = settled-inside c.self.inside c.args.self.now c.self.view_is c.requires.settled

pub let_go_next-closed-requires-clause-usable : goal.let_go_next-closed-requires-clause-usable
let_go_next-closed-requires-clause-usable c = holds-usable c.self.inside.tree.rows c.self.inside.events c.self.invariant.contexts

pub step-step-requires-clause-at_work : goal.step-step-requires-clause-at_work
step-step-requires-clause-at_work c = at_work-inside c.self.inside c.args.self.now c.self.view_is c.requires.at_work

pub step-step-requires-clause-settled : goal.step-step-requires-clause-settled
step-step-requires-clause-settled c = settled-inside c.self.inside c.args.self.now c.self.view_is c.requires.settled

-- what is gone with this step is no queue that has entries, and no context in which something comes
pub follow-requires : goal.follow-requires
follow-requires c =
    let u = c.self.inside.events.upcoming in
    let s = frees_of c.self.inside.engine c.self.inside.tree in
    let told = c.step-step.result in
    let may = subst (λ (o : Objects). MayForget (next_of (frees_in o)).0 (upcoming_in o.pool)) (sym c.self.view_is) c.requires.forgettable in
    let here = subst (λ (t : Option FreeStep). MayForget t u) (ap (λ (n : Option FreeStep × OpenFrees). n.0) (next-beside u s) ∙ c.step-step.ensures.steps.tells) may in
    rw (c.let_go_next-closed.ensures.upcoming, c.step-step.ensures.steps.tells) (forgets-later told c.self.inside.tree.rows u here)

pub invariant_of-self : goal.invariant_of-self
invariant_of-self c =
    let e = c.step-step.ensures in
    let l = c.let_go_next-closed.ensures in
    let d = c.follow.ensures in
    stepped c.self.inside _ _ _ _ _ c.step-step.result e.steps e.changed c.len-rows.ensures.sound.forest
    (record { refs = e.places; sums = c.count_step.ensures.spare; upcoming = after-both c.self.inside.tree.rows c.step-step.result _ c.self.inside.events.upcoming _ _ c.step-step.ensures.steps.tells c.let_go_next-closed.ensures.upcoming c.follow.ensures.upcoming; places = places-both _ _ _ l.kept d.kept; contexts = contexts-both _ _ _ _ l.contexts d.contexts })
    e.refs c.count_step.ensures.kept e.kept e.room c.self.invariant

pub returns-clause-steps : goal.returns-clause-steps
returns-clause-steps c =
    let told = c.step-step.result in
    let left = frees_beside (after c.self.inside.tree.rows (Some told) c.self.inside.events.upcoming) (frees_of c.step-step.new.self c.step-step.new.tree) in
    rw (after-both c.self.inside.tree.rows c.step-step.result _ c.self.inside.events.upcoming _ _ c.step-step.ensures.steps.tells c.let_go_next-closed.ensures.upcoming c.follow.ensures.upcoming)
    (subst (λ (o : Objects). Steps (frees_in o) told left) c.self.view_is
    (steps-beside c.self.inside.events.upcoming (frees_of c.self.inside.engine c.self.inside.tree) (frees_of c.step-step.new.self c.step-step.new.tree) told c.step-step.ensures.steps))

pub returns-clause-told : goal.returns-clause-told
returns-clause-told c =
    let told = ap (λ (t : Option FreeStep). closed_of c.self.inside.events.upcoming.ring (let_go_by t)) c.step-step.ensures.steps.tells in
    c.event-event.ensures _ (c.let_go_next-closed.ensures.closed ∙ told) ∙ ap (λ (o : Objects). event_of o.pool.ring c.step-step.result) c.self.view_is

pub returns-clause-goes_on : goal.returns-clause-goes_on
returns-clause-goes_on c = steps-go_on (frees_in c.args.self.now) _ c.step-step.result c.requires.at_work (returns-clause-steps c)

pub returns-clause-requests : goal.returns-clause-requests
returns-clause-requests c = rw (← c.self.view_is, after-both c.self.inside.tree.rows c.step-step.result _ c.self.inside.events.upcoming _ _ c.step-step.ensures.steps.tells c.let_go_next-closed.ensures.upcoming c.follow.ensures.upcoming) (told-unreceived c.self.inside.tree.rows c.step-step.result c.self.inside.events.upcoming)
