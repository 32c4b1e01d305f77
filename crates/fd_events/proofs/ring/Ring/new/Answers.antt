use Rattle.std.proofs.Common.{List, sym, subst}
use Rattle.fd_events.specs.declared.change.Change.{Change}
use Rattle.fd_events.specs.declared.lane.Lane.{Lane}
use Rattle.fd_events.specs.Changes.{watches_of, contexts_of}
use Rattle.fd_events.specs.Linked.{IsKept}
use Rattle.fd_events.proofs.Keeping.{keeps-new}
use Rattle.fd_events.proofs.ring.Ring.new.Goals as goal

pub invariant_of-result : goal.invariant_of-result
invariant_of-result c =
    let l : Lane = record { nodes = c.new.result; ends = c.new-2.result; next_stamp = 0 } in
    subst (λ (t : List (Change × Unit {0})). IsKept l c.new-3.result.pairs (watches_of t) (contexts_of t)) (sym c.new-4.ensures)
    (keeps-new l c.new-3.result.pairs c.new.ensures.empty c.new-2.ensures c.new-3.ensures.empty)
