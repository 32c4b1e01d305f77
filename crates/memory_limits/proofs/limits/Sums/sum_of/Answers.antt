use Rattle.std.proofs.Common.{sym, ◌∙◌, ap}
use Rattle.std.specs.Option.{option_map}
use Rattle.memory_limits.specs.Limits.{limited_at}
use Rattle.memory_limits.proofs.limits.Sums.sum_of.Goals as goal

pub returns-in-Some : goal.returns-in-Some
returns-in-Some c = c.requires (limited_at c.args.x.0 c.in-Some.allowance) (sym c.find.ensures ∙ ap (option_map (limited_at c.args.x.0)) c.in-Some.is)
