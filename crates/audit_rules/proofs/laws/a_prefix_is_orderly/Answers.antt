use Rattle.audit_rules.proofs.Prefixes.{prefix_orderly}
use Rattle.audit_rules.proofs.laws.a_prefix_is_orderly.Goals as goal

pub returns : goal.returns
returns c = λ items more each. prefix_orderly items more each
