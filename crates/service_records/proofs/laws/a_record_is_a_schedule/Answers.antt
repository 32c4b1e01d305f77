use Rattle.service_records.proofs.Judging.{record-is-schedule}
use Rattle.service_records.proofs.laws.a_record_is_a_schedule.Goals as goal

pub returns : goal.returns
returns c = λ is fit ranges short few. record-is-schedule is fit ranges short few
