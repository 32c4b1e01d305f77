use Rattle.std.proofs.Common.{Some, sym, ◌∙◌, ap}
use Rattle.tree_specs.specs.declared.object.Owner.{Owner}
use Rattle.tree_specs.specs.declared.object.Owner.TheVariants.{Of}
use Rattle.memory_limits.specs.Limits.{listed}
use Rattle.memory_limits.proofs.Climbing.{climbed, climbs-all, at-root, no-steps, no-owner}
use Rattle.memory_limits.proofs.change.Change.count_above.Goals as goal

pub returns-in_default-clause-limited : goal.returns-in_default-clause-limited
returns-in_default-clause-limited c =
    sym (at-root c.loop-steps.steps c.args.self c.args.tree.now.rows c.loop-steps.at (listed c.loop-steps.all.pairs) c.in_default.not-Of) ∙ c.loop-steps.invariant.limited
    ∙ climbs-all c.args.self c.args.tree.now.rows (Of c.args.x) (listed c.args.all.now.pairs) c.len-steps.ensures.sound.forest.rooted

pub returns-in_default-parent-clause-limited : goal.returns-in_default-parent-clause-limited
returns-in_default-parent-clause-limited c =
    c.count_at.ensures.limited
    ∙ sym (no-owner c.loop-steps.steps c.args.self c.args.tree.now.rows c.in-Of.x (listed c.loop-steps.all.pairs) c.loop-steps-test.true (sym c.parent.ensures.owner ∙ c.in_default-parent.is))
    ∙ ap (λ (o : Owner). climbed c.loop-steps.steps c.args.self c.args.tree.now.rows (Some o) (listed c.loop-steps.all.pairs)) (sym c.in-Of.is)
    ∙ c.loop-steps.invariant.limited ∙ climbs-all c.args.self c.args.tree.now.rows (Of c.args.x) (listed c.args.all.now.pairs) c.len-steps.ensures.sound.forest.rooted

pub returns-clause-limited : goal.returns-clause-limited
returns-clause-limited c =
    sym (no-steps c.loop-steps.steps c.args.self c.args.tree.now.rows c.loop-steps.at (listed c.loop-steps.all.pairs) c.loop-steps-test.false) ∙ c.loop-steps.invariant.limited
    ∙ climbs-all c.args.self c.args.tree.now.rows (Of c.args.x) (listed c.args.all.now.pairs) c.len-steps.ensures.sound.forest.rooted
