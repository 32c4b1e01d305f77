use Rattle.std.proofs.Common.{List, ap, ◌∙◌}
use Rattle.tree_specs.specs.declared.due.Due.{Due}
use Rattle.tree_specs.specs.Events.Pending.{is_armed}
use Rattle.timers.proofs.Comes.{armed-gone}
use Rattle.timers.proofs.times.Times.arm.Goals as goal

pub enter-requires-clause-absent : goal.enter-requires-clause-absent
enter-requires-clause-absent c = ap (λ (l : List Due). is_armed l c.args.x) c.disarm.ensures.dues ∙ armed-gone c.args.self.now.dues c.args.x
