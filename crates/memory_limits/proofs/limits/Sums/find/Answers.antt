use Rattle.std.proofs.Common.{sym, ◌∙◌, ap}
use Rattle.std.specs.Option.{option_map}
use Rattle.memory_limits.specs.Limits.{Limits, found, limited_at}
use Rattle.memory_limits.proofs.Listed.{found-get}
use Rattle.memory_limits.proofs.limits.Sums.find.Goals as goal

pub returns : goal.returns
returns c = ap (option_map (limited_at c.args.x.0)) (c.copied.ensures ∙ c.get.ensures) ∙ sym (found-get c.self.inside.limited.pairs c.args.x) ∙ ap (λ (v : Limits). found v.limited c.args.x) c.self.view_is
