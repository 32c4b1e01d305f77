use Rattle.std.proofs.Common.{List, length, sym, ap, ◌∙◌, arith}
use Rattle.tree_specs.specs.declared.watch.Watch.{Watch}
use Rattle.tree_specs.specs.Events.Rotation.{ring_in, ring_without}
use Rattle.fd_events.proofs.Losing.{once-lost, first-none, ring-lost}
use Rattle.fd_events.proofs.ring.Ring.clear.Goals as goal

pub loop-x-preserved : goal.loop-x-preserved
loop-x-preserved c =
    let p = once-lost c.loop-x.self.watches c.args.c c.in-Some.x c.in-Some.ensures.events (sym c.in-Some.ensures.next) in
    let room = c.lose.ensures.spare in
    let before = c.loop-x.invariant.spare in
    let lanes = c.lose.ensures.contexts_spare in
    let lanes_before = c.loop-x.invariant.contexts_spare in
    record {
      all = ap (λ (ws : List Watch). ring_without ws c.args.c) c.lose.ensures.watches ∙ p.0 ∙ c.loop-x.invariant.all;
      contexts = c.lose.ensures.contexts ∙ c.loop-x.invariant.contexts;
      spare = omega (arith, room, before);
      contexts_spare = omega (arith, lanes, lanes_before);
    }

pub loop-x-smaller : goal.loop-x-smaller
loop-x-smaller c =
    let p = once-lost c.loop-x.self.watches c.args.c c.in-Some.x c.in-Some.ensures.events (sym c.in-Some.ensures.next) in
    let fewer = p.1 in
    let left = ap (λ (ws : List Watch). length (ring_in ws c.args.c)) c.lose.ensures.watches in
    omega (arith, fewer, left)

pub returns-clause-watches : goal.returns-clause-watches
returns-clause-watches c =
    sym (ring-lost c.loop-x.self.watches c.args.c (first-none (ring_in c.loop-x.self.watches c.args.c) (sym c.in_default.ensures.next))) ∙ c.loop-x.invariant.all

pub returns-clause-none : goal.returns-clause-none
returns-clause-none c = first-none (ring_in c.loop-x.self.watches c.args.c) (sym c.in_default.ensures.next)
