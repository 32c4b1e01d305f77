use Rattle.audit_rules.proofs.FirstFlaw.{first_flaw}
use Rattle.audit_rules.proofs.laws.what_is_found_is_the_first_flaw.Goals as goal

pub returns : goal.returns
returns c = λ bytes n k h. first_flaw bytes n k h
