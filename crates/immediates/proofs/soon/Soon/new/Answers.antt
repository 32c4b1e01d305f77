use Rattle.std.proofs.Common.{List, sym, subst}
use Rattle.immediates.specs.declared.change.Change.{Change}
use Rattle.immediates.specs.Changes.{coming_of, contexts_of}
use Rattle.immediates.specs.Linked.{IsKept}
use Rattle.immediates.proofs.Keeping.{keeps-new}
use Rattle.immediates.proofs.soon.Soon.new.Goals as goal

pub invariant_of-result : goal.invariant_of-result
invariant_of-result c =
    subst (λ (l : List (Change × Unit {0})). IsKept c.new.result.pairs c.new-2.result.lanes (coming_of l) (contexts_of l)) (sym c.new-3.ensures)
    (keeps-new c.new.result.pairs c.new-2.result.lanes c.new.ensures.empty c.new-2.ensures)
