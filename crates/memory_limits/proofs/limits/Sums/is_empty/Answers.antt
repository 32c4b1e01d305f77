use Rattle.std.proofs.Common.{rules, refl, sym, ◌∙◌, ap}
use Rattle.std.proofs.lemmas.Bool.{eqb-true}
use Rattle.memory_limits.specs.Limits.{Limits}
use Rattle.memory_limits.proofs.Listed.{none-listed, listed-none}
use Rattle.memory_limits.proofs.limits.Sums.is_empty.Goals as goal

pub returns : goal.returns
returns c =
    let is = ap (λ (v : Limits). v.limited) c.self.view_is in (
      λ t. sym is ∙ none-listed c.self.inside.limited.pairs (sym c.len.ensures ∙ eqb-true c.len.result 0 (search rules)),
      λ e. let z = c.len.ensures ∙ listed-none c.self.inside.limited.pairs (is ∙ e) in rw z refl,
    )
