use Rattle.std.proofs.Common.{rules, ◌≡◌, length, List, Some, Err, sym, ◌∙◌, ap, subst}
use Rattle.std.specs.Option.{option_copied}
use Rattle.tree_specs.specs.Tree.Pool.{owner_in}
use Rattle.tree_specs.specs.Tree.Sums.{limit_in, limit_at}
use Rattle.memory_limits.specs.declared.limited.Limited.{Limited}
use Rattle.memory_limits.specs.Limits.{limit_of}
use Rattle.memory_limits.proofs.Kept.{unlimited-fits, over-unlimited}
use Rattle.tree_specs.specs.declared.object.Owner.{Owner}
use Rattle.tree_specs.specs.Calls.Refusals.{checked, fits_in, fits}
use Rattle.memory_limits.proofs.Upward.{above-all, far-enough, lacks, topmost}
use Rattle.memory_limits.proofs.limits.Sums.fits.Goals as goal

pub returns-then-is_empty : goal.returns-then-is_empty
unfolding fits
returns-then-is_empty c =
    let none = c.is_empty.ensures.0 c.if-is_empty.true in
    sym (ap checked (unlimited-fits (length c.args.tree.now.rows) c.args.tree.now.rows c.args.wanted (Some c.args.owner) (λ x. subst (λ (ls : List Limited). limit_of ls x ≡ limit_at c.args.tree.now.rows x) none (c.requires.limits x))))

pub returns-in_default : goal.returns-in_default
unfolding fits
returns-in_default c = sym (above-all c.loop-steps.steps c.args.tree.now.rows c.args.wanted c.loop-steps.at c.in_default.not-Of) ∙ c.loop-steps.invariant

pub returns-in_default-row : goal.returns-in_default-row
unfolding fits
returns-in_default-row c =
    let none = sym c.row.ensures.row ∙ ap option_copied c.in_default-row.is in
    sym (topmost c.loop-steps.steps c.args.tree.now.rows c.args.wanted c.in-Of.x c.loop-steps-test.true (over-unlimited c.args.tree.now.rows c.args.wanted c.in-Of.x (ap limit_in none)) (ap owner_in none))
    ∙ ap (λ (o : Owner). checked (fits_in c.loop-steps.steps c.args.tree.now.rows c.args.wanted (Some o))) (sym c.in-Of.is) ∙ c.loop-steps.invariant

pub returns-in_err-check_one : goal.returns-in_err-check_one
unfolding fits
returns-in_err-check_one c =
    let fails : c.from_residual.result ≡ Err c.in_err-check_one.field-0.0 = search rules in
    fails ∙ sym (lacks c.loop-steps.steps c.args.tree.now.rows c.args.wanted c.in-Of.x _ c.loop-steps-test.true (sym c.check_one.ensures ∙ c.in_err-check_one.was))
    ∙ ap (λ (o : Owner). checked (fits_in c.loop-steps.steps c.args.tree.now.rows c.args.wanted (Some o))) (sym c.in-Of.is) ∙ c.loop-steps.invariant

pub returns-in_default-owner : goal.returns-in_default-owner
unfolding fits
returns-in_default-owner c =
    let lone = ap owner_in (sym c.row.ensures.row ∙ ap option_copied c.in-Some.is) ∙ c.in_default-owner.is in
    sym (topmost c.loop-steps.steps c.args.tree.now.rows c.args.wanted c.in-Of.x c.loop-steps-test.true (sym c.check_one.ensures ∙ c.in_ok-check_one.was) lone)
    ∙ ap (λ (o : Owner). checked (fits_in c.loop-steps.steps c.args.tree.now.rows c.args.wanted (Some o))) (sym c.in-Of.is) ∙ c.loop-steps.invariant

pub returns : goal.returns
unfolding fits
returns c = sym (far-enough c.loop-steps.steps c.args.tree.now.rows c.args.wanted c.loop-steps.at c.loop-steps-test.false) ∙ c.loop-steps.invariant
