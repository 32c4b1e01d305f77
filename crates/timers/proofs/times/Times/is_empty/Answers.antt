use Rattle.std.proofs.Common.{is_some, sym, ap, ◌∙◌}
use Rattle.timers.proofs.Contexts.{none-told}
use Rattle.timers.proofs.times.Times.is_empty.Goals as goal

pub returns : goal.returns
returns c = none-told _ _ (sym c.is_none.ensures ∙ ap is_some c.earliest.ensures.first)
