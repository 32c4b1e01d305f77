use Rattle.service_rules.proofs.FittingSent.{fitting-go-out}
use Rattle.service_rules.proofs.laws.bytes_go_out_where_answers_fit.Goals as goal

pub returns : goal.returns
returns c = λ is js acts e strays. fitting-go-out is js acts e strays
