use Rattle.audit_rules.proofs.Whole.{flawless_is_orderly}
use Rattle.audit_rules.proofs.laws.what_has_no_flaw_is_orderly.Goals as goal

pub returns : goal.returns
returns c = λ bytes. flawless_is_orderly bytes
