use Rattle.std.proofs.Common.{subst}
use Rattle.std.specs.FinMap.{entries_sorted}
use Rattle.requests.specs.Register.{Register, AreInOrder}
use Rattle.requests.proofs.requests.Requests.len.Goals as goal

pub returns-clause-order : goal.returns-clause-order
returns-clause-order c = subst (λ (r : Register). AreInOrder r.notes) c.self.view_is (entries_sorted c.self.inside.notes.pairs)
