use Rattle.std.proofs.Common.{List, length, refl, sym, ap, ◌∙◌, arith}
use Rattle.tree_specs.specs.declared.due.Due.{Due}
use Rattle.tree_specs.specs.Events.Pending.{times_in, times_without}
use Rattle.timers.proofs.Contexts.{gone-elsewhere, gone-fewer, none-without}
use Rattle.timers.proofs.times.Times.clear.Goals as goal

pub loop-x-preserved : goal.loop-x-preserved
loop-x-preserved c =
    let room = c.disarm.ensures.spare in
    let before = c.loop-x.invariant.spare in
    let contexts_room = c.disarm.ensures.contexts_spare in
    let contexts_before = c.loop-x.invariant.contexts_spare in
    record {
      elsewhere = ap (λ (ds : List Due). times_without ds c.args.c) c.disarm.ensures.dues ∙ gone-elsewhere c.loop-x.self.dues c.args.c c.in-Some.x c.in-Some.ensures.once c.in-Some.ensures.armed
          ∙ c.loop-x.invariant.elsewhere;
      contexts = c.disarm.ensures.contexts ∙ c.loop-x.invariant.contexts;
      spare = omega (arith, room, before);
      contexts_spare = omega (arith, contexts_room, contexts_before);
    }

pub loop-x-smaller : goal.loop-x-smaller
loop-x-smaller c =
    let fewer = gone-fewer c.loop-x.self.dues c.args.c c.in-Some.x c.in-Some.ensures.once c.in-Some.ensures.armed in
    let left = ap (λ (ds : List Due). length (times_in ds c.args.c)) c.disarm.ensures.dues in
    omega (arith, fewer, left)

pub returns-clause-dues : goal.returns-clause-dues
returns-clause-dues c = sym (none-without c.loop-x.self.dues c.args.c (c.in_default.ensures.none refl)) ∙ c.loop-x.invariant.elsewhere
