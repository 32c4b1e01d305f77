use Rattle.service_rules.proofs.ScheduleLaws.{same-judged, same-transcript}
use Rattle.service_rules.proofs.laws.pool_schedules_are_judged_as_before.Goals as goal

pub returns-clause-judged : goal.returns-clause-judged
returns-clause-judged c = λ first rest h. same-judged first rest h

pub returns-clause-transcript : goal.returns-clause-transcript
returns-clause-transcript c = λ first rest h. same-transcript first rest h
