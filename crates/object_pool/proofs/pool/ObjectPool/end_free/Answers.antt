use Rattle.std.proofs.Common.{subst}
use Rattle.tree_specs.specs.declared.free_step.FreeStep.TheVariants.{Done}
use Rattle.destructors.specs.Frees.{frees_of, Steps}
use Rattle.object_pool.specs.Objects.{Objects, frees_in}
use Rattle.object_pool.specs.Upcoming.{frees_beside}
use Rattle.object_pool.proofs.Beside.{steps-beside}
use Rattle.object_pool.proofs.Onward.{steps-go_on}
use Rattle.object_pool.proofs.Opening.{at_work-inside, settled-inside}
use Rattle.object_pool.proofs.pool.ObjectPool.end_free.Goals as goal

pub end_free-requires-clause-at_work : goal.end_free-requires-clause-at_work
end_free-requires-clause-at_work c = at_work-inside c.self.inside c.args.self.now c.self.view_is c.requires.at_work

pub end_free-requires-clause-settled : goal.end_free-requires-clause-settled
end_free-requires-clause-settled c = settled-inside c.self.inside c.args.self.now c.self.view_is c.requires.settled

pub returns-clause-steps : goal.returns-clause-steps
returns-clause-steps c =
    let u = c.self.inside.events.upcoming in
    let told = Done c.in_ok-answer.answer in
    let left = frees_of c.end_free.new.self c.end_free.new.tree in
    subst (λ (o : Objects). Steps (frees_in o) told (frees_beside u left)) c.self.view_is (steps-beside u (frees_of c.self.inside.engine c.self.inside.tree) left told c.in_ok-answer.ensures.steps)

pub returns-clause-goes_on : goal.returns-clause-goes_on
returns-clause-goes_on c = steps-go_on (frees_in c.args.self.now) _ (Done c.in_ok-answer.answer) c.requires.at_work (returns-clause-steps c)
