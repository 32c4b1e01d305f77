use Rattle.std.proofs.Common.{nat_eq, refl, ap, ◌∙◌}
use Rattle.std.specs.Option.{option_map}
use Rattle.pool_arena.specs.Arena.{get}
use Rattle.pool_arena.proofs.Steps.{mapped-at, len-old}
use Rattle.fd_events.specs.Linked.{sides_of, stamp_of, watching}
use Rattle.fd_events.proofs.Nodes.{with_place, read-changed, read-same}
use Rattle.fd_events.proofs.node.set_place.Goals as goal

pub returns-in-Some-clause-sides : goal.returns-in-Some-clause-sides
returns-in-Some-clause-sides c = λ q.
    ap (option_map sides_of) (mapped-at c.args.nodes.now c.args.x (with_place c.args.sides c.args.stamp) c.in-Some.node.now c.in-Some.ensures.value q)
    ∙ read-changed sides_of (with_place c.args.sides c.args.stamp) (λ _. c.args.sides) (λ v. refl) (nat_eq c.args.x q) (get c.args.nodes.now q)

pub returns-in-Some-clause-stamps : goal.returns-in-Some-clause-stamps
returns-in-Some-clause-stamps c = λ q.
    ap (option_map stamp_of) (mapped-at c.args.nodes.now c.args.x (with_place c.args.sides c.args.stamp) c.in-Some.node.now c.in-Some.ensures.value q)
    ∙ read-changed stamp_of (with_place c.args.sides c.args.stamp) (λ _. c.args.stamp) (λ v. refl) (nat_eq c.args.x q) (get c.args.nodes.now q)

pub returns-in-Some-clause-watches : goal.returns-in-Some-clause-watches
returns-in-Some-clause-watches c = λ q.
    ap (option_map (watching q)) (mapped-at c.args.nodes.now c.args.x (with_place c.args.sides c.args.stamp) c.in-Some.node.now c.in-Some.ensures.value q)
    ∙ read-same (watching q) (with_place c.args.sides c.args.stamp) (λ v. refl) (nat_eq c.args.x q) (get c.args.nodes.now q)

pub returns-in-Some-clause-len : goal.returns-in-Some-clause-len
returns-in-Some-clause-len c = len-old c.args.nodes.now.pairs c.args.x _ c.in-Some.node.now c.in-Some.ensures.value
