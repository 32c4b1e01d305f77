use Rattle.std.proofs.Common.{rules, subst}
use Rattle.tree_specs.specs.Invariants.Consistent.{IsConsistent}
use Rattle.tree_specs.proofs.Rules.MidStories.{rest-items}
use Rattle.host_core.proofs.host.Host.live.Goals as goal

pub returns : goal.returns
returns c =
    let whole : IsConsistent c.args.self.now = subst IsConsistent c.self.view_is c.self.invariant.0.whole in
    record {
      count = search rules;
      sound = whole.sound;
      waiting = whole.awaits;
      notes = whole.noted.pool.notes;
      queues = whole.queued.pool.queues;
      entries = whole.queued.pool.entries;
      queued = whole.queued.pool.waiting;
      whole = whole;
      text = λ is. rest-items c.args.self.now is whole;
    }
