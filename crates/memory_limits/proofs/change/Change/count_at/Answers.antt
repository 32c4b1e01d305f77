use Rattle.std.proofs.Common.{sym, ◌∙◌, ap}
use Rattle.std.specs.Option.{option_copied_mut}
use Rattle.std.specs.FinMap as map
use Rattle.memory_limits.specs.Limits.{listed}
use Rattle.memory_limits.proofs.Listed.{counted-listed, uncounted-listed}
use Rattle.memory_limits.proofs.change.Change.count_at.Goals as goal

pub returns-in-Some-clause-limited : goal.returns-in-Some-clause-limited
returns-in-Some-clause-limited c =
    ap (λ n. listed (map.insert c.args.all.now.pairs c.args.x.0 (record c.in-Some.allowance.now { sum = n }))) c.summed-allowance.ensures
    ∙ counted-listed c.args.self c.args.x c.in-Some.allowance.now c.args.all.now.pairs (sym c.get_mut.ensures.value ∙ ap option_copied_mut c.in-Some.is)

pub returns-in_default-clause-limited : goal.returns-in_default-clause-limited
returns-in_default-clause-limited c = sym (uncounted-listed c.args.self c.args.x c.args.all.now.pairs (sym c.get_mut.ensures.value ∙ ap option_copied_mut c.in_default.is))
