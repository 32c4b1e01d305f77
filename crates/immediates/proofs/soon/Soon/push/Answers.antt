use Rattle.std.proofs.Common.{List, ◌∙◌, ap}
use Rattle.tree_specs.specs.declared.coming.Coming.{Coming}
use Rattle.tree_specs.specs.Events.Pending.{is_scheduled}
use Rattle.immediates.proofs.Once.{gone}
use Rattle.immediates.proofs.soon.Soon.push.Goals as goal

pub join-requires-clause-absent : goal.join-requires-clause-absent
join-requires-clause-absent c = ap (λ (xs : List Coming). is_scheduled xs c.args.x) c.remove.ensures.coming ∙ gone c.args.self.now.coming c.args.x
