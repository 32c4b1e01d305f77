use Rattle.std.proofs.Common.{refl, sym, ap, ◌∙◌, arith}
use Rattle.std.specs.FinMap as map
use Rattle.immediates.specs.declared.change.Change.TheVariants.{Joins}
use Rattle.tree_specs.specs.Events.Pending.{is_scheduled}
use Rattle.immediates.specs.Waiting.{Waiting}
use Rattle.immediates.proofs.Keeping.{fewer, vacant, longer, keeps-joined, keeps-noted}
use Rattle.immediates.proofs.soon.Soon.join.Goals as goal

pub add-requires-clause-vacant : goal.add-requires-clause-vacant
add-requires-clause-vacant c =
    vacant c.self.inside.nodes.pairs c.self.inside.ends.lanes _ _ c.self.invariant c.args.x c.args.c c.unwrap-ends.result (sym c.get.ensures ∙ c.unwrap-ends.ensures)
    (ap (λ (v : Waiting). is_scheduled v.coming c.args.x) c.self.view_is ∙ c.requires.absent)
    c.set_link.new.nodes.pairs c.set_link.ensures.sides c.set_link.ensures.contexts c.set_link.ensures.len

pub prove-unreachable-requires : goal.prove-unreachable-requires
prove-unreachable-requires c =
    let few = fewer c.self.inside.nodes.pairs c.self.inside.ends.lanes _ _ c.self.invariant c.args.c.0 c.unwrap-ends.result (sym c.get.ensures ∙ c.unwrap-ends.ensures) in
    let more =
    longer c.self.inside.nodes.pairs c.self.inside.ends.lanes _ _ c.self.invariant c.args.x c.args.c c.unwrap-ends.result (sym c.get.ensures ∙ c.unwrap-ends.ensures)
    (ap (λ (v : Waiting). is_scheduled v.coming c.args.x) c.self.view_is ∙ c.requires.absent)
    c.set_link.new.nodes.pairs c.set_link.ensures.sides c.set_link.ensures.contexts c.set_link.ensures.len
    _ refl refl c.add.new.self.pairs c.add.ensures.pairs in
    let all = c.len.ensures in
    let under = c.if-prove.true in
    omega (arith, few, more, all, under)

pub invariant_of-self : goal.invariant_of-self
invariant_of-self c =
    keeps-noted _ _ c.self.inside.changes.items c.and-self-inside.result.items (Joins (record { object = c.args.x; context = c.args.c })) c.and-self-inside.ensures
    (keeps-joined c.self.inside.nodes.pairs c.self.inside.ends.lanes _ _ c.self.invariant c.args.x c.args.c c.unwrap-ends.result (sym c.get.ensures ∙ c.unwrap-ends.ensures)
    (ap (λ (v : Waiting). is_scheduled v.coming c.args.x) c.self.view_is ∙ c.requires.absent)
    c.set_link.new.nodes.pairs c.set_link.ensures.sides c.set_link.ensures.contexts c.set_link.ensures.len
    _ refl refl c.add.new.self.pairs c.add.ensures.pairs
    c.set.new.self.lanes (c.set.ensures.lanes ∙ ap (map.insert c.self.inside.ends.lanes c.args.c.0) c.joined.ensures))
