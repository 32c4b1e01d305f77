use Rattle.std.proofs.Common.{◌+◌, length}
use Rattle.tree_specs.specs.Invariants.Measure.{cost, pending}
use Rattle.tree_specs.specs.Machine.View.{View}
use Rattle.host_core.specs.Hosts.{TellsSameStory, host_view, IsBetweenSteps}
use Rattle.host_core.proofs.works.settle_works.Given as goal

-- the host is ready, and nothing was told
abbrev pub invariant-loop-now : goal.invariant-loop-now
invariant-loop-now l = record {
  ready : IsBetweenSteps l.now l.parts;
  along : TellsSameStory (host_view l.initial.now l.initial.parts) (host_view l.now l.parts);
}

abbrev pub decreases-loop-now : goal.decreases-loop-now
decreases-loop-now l =
    let u : View = host_view l.initial.now l.initial.parts in
    let v : View = host_view l.now l.parts in
    cost (length u.pool.rows + pending u.innermost) v.innermost v.below v.pool 0
