use Rattle.std.proofs.Common.{rules, ℕ, Err, sym, ◌∙◌, ap}
use Rattle.std.specs.Option.{option_map}
use Rattle.tree_specs.specs.declared.reply.Refusal.TheVariants.{OverLimit}
use Rattle.memory_limits.specs.Limits.{limited_at}
use Rattle.memory_limits.proofs.Kept.{over-none, over-lacks, over-fits}
use Rattle.memory_limits.proofs.limits.Sums.check_one.Goals as goal

pub returns-in_default : goal.returns-in_default
returns-in_default c = sym (over-none c.args.self.now.limited c.args._tree.now.rows c.args.wanted c.args.x c.requires.limits (sym c.find.ensures ∙ ap (option_map (limited_at c.args.x.0)) c.in_default.is))

pub returns-then-not-lacks : goal.returns-then-not-lacks
returns-then-not-lacks c =
    sym (over-fits c.args.self.now.limited c.args._tree.now.rows c.args.wanted c.args.x (limited_at c.args.x.0 c.in-Some.allowance) c.requires.limits (sym c.find.ensures ∙ ap (option_map (limited_at c.args.x.0)) c.in-Some.is) (search rules))

pub returns : goal.returns
returns c =
    ap (λ (n : ℕ). Err (OverLimit c.args.x c.in-Some.allowance.sum c.args.wanted n)) c.requires.limit
    ∙ sym (over-lacks c.args.self.now.limited c.args._tree.now.rows c.args.wanted c.args.x (limited_at c.args.x.0 c.in-Some.allowance) c.requires.limits (sym c.find.ensures ∙ ap (option_map (limited_at c.args.x.0)) c.in-Some.is) (search rules))
