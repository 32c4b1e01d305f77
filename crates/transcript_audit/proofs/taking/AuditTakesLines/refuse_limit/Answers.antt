use Rattle.transcript_audit.proofs.LineSteps.{over_limit}
use Rattle.transcript_audit.proofs.taking.AuditTakesLines.refuse_limit.Goals as goal

pub returns : goal.returns
returns c = λ line rest over. over_limit c.args.self.now c.args.number line rest over
