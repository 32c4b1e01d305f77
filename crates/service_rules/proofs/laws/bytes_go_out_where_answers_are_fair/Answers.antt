use Rattle.service_rules.proofs.Sending.{fair-go-out}
use Rattle.service_rules.proofs.laws.bytes_go_out_where_answers_are_fair.Goals as goal

pub returns : goal.returns
returns c = λ is js e fair. fair-go-out is js e fair
