use Rattle.std.proofs.Common.{◌≡◌, ◌+◌, ◌<◌, None, length, sym, ap, subst, ◌∙◌, arith}
use Rattle.tree_specs.specs.declared.object.Obj.{Obj}
use Rattle.tree_specs.specs.Calls.Refusals.{row_limit}
use Rattle.tree_specs.specs.Events.Requests.{note_of}
use Rattle.tree_specs.specs.Tree.Pool.{Pool}
use Rattle.object_pool.specs.Objects.{Objects}
use Rattle.object_pool.proofs.Given.{unkept}
use Rattle.object_pool.proofs.Requesting.{new-owner, request-added}
use Rattle.object_pool.proofs.pool.ObjectPool.add_request.Goals as goal

pub add_row-child-requires-clause-room : goal.add_row-child-requires-clause-room
add_row-child-requires-clause-room c =
    let left = c.add_row-request.ensures.places in
    let room = (c.self.invariant.call (ap (λ (o : Objects). o.ready) c.self.view_is ∙ c.requires.ready)).row in
    omega (arith, left, room)

pub add_row-child-requires-clause-few : goal.add_row-child-requires-clause-few
add_row-child-requires-clause-few c =
    let more = ap (λ (p : Pool). length p.rows) c.add_row-request.ensures.rows in
    let few = subst (λ (o : Objects). length o.pool.rows + 1 < row_limit) (sym c.self.view_is) c.requires.few in
    omega (arith, more, few)

pub add_row-child-requires-clause-owner : goal.add_row-child-requires-clause-owner
add_row-child-requires-clause-owner c =
    let rows = ap (λ (p : Pool). p.rows) c.add_row-request.ensures.rows in
    rw (rows, c.add_row-request.ensures.serial) (new-owner c.self.inside.tree.rows (record { 0 = c.self.inside.tree.next }) c.args.owner 0 c.fixed.result)

pub create-requires-clause-place : goal.create-requires-clause-place
create-requires-clause-place c = (c.self.invariant.event (c.self.invariant.placed (ap (λ (o : Objects). o.ready) c.self.view_is ∙ c.requires.ready)).2).event

pub create-requires-clause-new : goal.create-requires-clause-new
create-requires-clause-new c =
    let notes = c.self.inside.events.upcoming.requests in
    subst (λ (x : Obj). note_of notes x ≡ None) (sym c.add_row-request.ensures.serial) (unkept c.self.inside.tree.next notes c.self.invariant.given.requests)

pub invariant_of-self : goal.invariant_of-self
invariant_of-self c =
    let first = c.add_row-request.ensures in
    let second = c.add_row-child.ensures in
    request-added c.self.inside c.add_row-request.new.tree c.add_row-child.new.tree c.add_row-child.new.sums c.create.new.self c.add_row-request.result c.add_row-child.result c.args.owner c.args.size c.fixed.result c.args.name
    (second.spare ∙ first.spare) (ap (λ (o : Objects). o.ready) c.self.view_is ∙ c.requires.ready) first.serial second.serial first.fresh second.fresh first.rows second.rows first.works second.works second.limits c.create.ensures.upcoming c.create.ensures.contexts c.self.invariant
