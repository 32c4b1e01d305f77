use Rattle.std.proofs.Common.{Some, length, ◌<◌, ◌/◌, ap, sym, arith, subst, ℕ}
use Rattle.std.proofs.lemmas.Option.{slice_get_within}
use Rattle.pool_arena.specs.Nodes.{Leads, next}
use Rattle.pool_arena.proofs.Walks.{goes_on, stops, no_way, next_rises}
use Rattle.pool_arena.proofs.places.Places.search.Goals as goal

pub returns-then-node-key-clause-found : goal.returns-then-node-key-clause-found
returns-then-node-key-clause-found c i found =
    let way = c.loop-node.invariant i found in
    ap Some (stops _ c.args.key way.0 c.loop-node.link c.loop-node.rest i c.in-Some.node.now (sym c.in-Some.ensures) c.if-node-key.true way.1)

pub loop-node-smaller : goal.loop-node-smaller
loop-node-smaller c =
    let rises : c.loop-node.link < next c.loop-node.rest c.in-Some.node.now = next_rises c.loop-node.rest c.in-Some.node.now c.loop-node.link (c.requires.sound.kept.rising c.loop-node.link c.in-Some.node.now (sym c.in-Some.ensures)) in
    let within : c.loop-node.link < length c.args.self.now.nodes.items = slice_get_within _ c.loop-node.link c.in-Some.node.now (sym c.in-Some.ensures) in
    omega (arith, c.next-link.ensures)

pub loop-node-preserved : goal.loop-node-preserved
loop-node-preserved c i found =
    let way = c.loop-node.invariant i found in
    subst (λ (x : ℕ). Leads c.args.self.now.nodes.items c.args.key x (c.loop-node.rest / 2) i) (sym c.next-link.ensures)
    (goes_on _ c.args.key way.0 c.loop-node.link c.loop-node.rest i c.in-Some.node.now (sym c.in-Some.ensures) c.if-node-key.false way.1)

pub returns-clause-found : goal.returns-clause-found
returns-clause-found c i found =
    let way = c.loop-node.invariant i found in
    absurd (no_way _ c.args.key way.0 c.loop-node.link c.loop-node.rest i (sym c.in_default.ensures) way.1)
