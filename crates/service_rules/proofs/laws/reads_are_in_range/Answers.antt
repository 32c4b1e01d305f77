use Rattle.service_rules.proofs.ReadRanges.{reads-in-range}
use Rattle.service_rules.proofs.laws.reads_are_in_range.Goals as goal

pub returns : goal.returns
returns c = λ is shown e. reads-in-range is shown e
