use Rattle.schedule_versions.proofs.Converting.{judged-as-before}
use Rattle.schedule_versions.proofs.laws.a_converted_schedule_is_judged_as_before.Goals as goal

pub returns : goal.returns
returns c = judged-as-before
