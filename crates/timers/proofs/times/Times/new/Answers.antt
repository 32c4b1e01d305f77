use Rattle.std.proofs.Common.{List, sym, subst}
use Rattle.timers.specs.declared.change.Change.{Change}
use Rattle.timers.specs.Changes.{dues_of, contexts_of}
use Rattle.timers.specs.Heaps.{dues_in, is_open, AreKept}
use Rattle.timers.proofs.Keeping.{keeps-new}
use Rattle.timers.proofs.times.Times.new.Goals as goal

pub invariant_of-result : goal.invariant_of-result
invariant_of-result c =
    let new = keeps-new c.new.result c.new-2.result.pairs c.new-2.result.spare c.new.ensures.first c.new.ensures.others c.new-2.ensures.empty in
    (subst (λ (l : List (Change × Unit {0})). AreKept (dues_in c.new.result) (is_open c.new.result) c.new-2.result.pairs (dues_of l) (contexts_of l)) (sym c.new-3.ensures) new.0, new.1)
