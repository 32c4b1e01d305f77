use Rattle.std.proofs.Common.{◌≡◌, ℕ, ◌+◌, ◌-◌, suc, length, is_some, Some, sym, ◌∙◌, ap, arith}
use Rattle.tree_specs.specs.declared.object.Owner.{Owner}
use Rattle.memory_limits.specs.Limits.{nearest_in, limited_at}
use Rattle.memory_limits.proofs.Climbing.{nearest-root, nearest-end, nearest-here, nearest-above, is_some-map}
use Rattle.memory_limits.proofs.limits.Sums.nearest.Goals as goal

pub loop-steps-init : goal.loop-steps-init
loop-steps-init c =
    let n = c.len-steps.ensures.count in
    let e : c.len-steps.result + 1 ≡ suc (length c.args.tree.now.rows) = omega (arith, n) in
    ap (λ (k : ℕ). nearest_in k c.args.self.now.limited c.args.tree.now.rows (Some c.args.owner)) e

pub loop-steps-preserved : goal.loop-steps-preserved
loop-steps-preserved c =
    ap (nearest_in (c.loop-steps.steps - 1) c.args.self.now.limited c.args.tree.now.rows) (sym c.in_ok-at.was ∙ c.parent.ensures.owner)
    ∙ sym (nearest-above c.loop-steps.steps c.args.self.now.limited c.args.tree.now.rows c.in-Of.x c.loop-steps-test.true (ap is_some (sym c.find.ensures) ∙ is_some-map (limited_at c.in-Of.x.0) c.find.result ∙ sym c.is_some.ensures ∙ c.if-is_some.false))
    ∙ ap (λ (o : Owner). nearest_in c.loop-steps.steps c.args.self.now.limited c.args.tree.now.rows (Some o)) (sym c.in-Of.is) ∙ c.loop-steps.invariant

pub returns-in_default-clause-nearest : goal.returns-in_default-clause-nearest
returns-in_default-clause-nearest c = sym (nearest-root c.loop-steps.steps c.args.self.now.limited c.args.tree.now.rows c.loop-steps.at c.in_default.not-Of) ∙ c.loop-steps.invariant

pub returns-then-is_some-clause-nearest : goal.returns-then-is_some-clause-nearest
returns-then-is_some-clause-nearest c =
    sym (nearest-here c.loop-steps.steps c.args.self.now.limited c.args.tree.now.rows c.in-Of.x c.loop-steps-test.true (ap is_some (sym c.find.ensures) ∙ is_some-map (limited_at c.in-Of.x.0) c.find.result ∙ sym c.is_some.ensures ∙ c.if-is_some.true))
    ∙ ap (λ (o : Owner). nearest_in c.loop-steps.steps c.args.self.now.limited c.args.tree.now.rows (Some o)) (sym c.in-Of.is) ∙ c.loop-steps.invariant

pub returns-clause-nearest : goal.returns-clause-nearest
returns-clause-nearest c = sym (nearest-end c.loop-steps.steps c.args.self.now.limited c.args.tree.now.rows c.loop-steps.at c.loop-steps-test.false) ∙ c.loop-steps.invariant
