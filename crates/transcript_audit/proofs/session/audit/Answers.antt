use Rattle.std.proofs.Common.{◌∙◌, sym}
use Rattle.transcript_audit.proofs.Findings.{broken_by, complete_by, orderly_by, read_only}
use Rattle.transcript_audit.proofs.session.audit.Goals as goal

pub returns-clause-orderly : goal.returns-clause-orderly
returns-clause-orderly g c = λ lines is.
    orderly_by (g.S.Source.left c.args.input.now) c.ending.result lines is (rw c.ending.ensures c.run.ensures.found)

pub returns-clause-broken : goal.returns-clause-broken
returns-clause-broken g c = λ line rule is.
    broken_by (g.S.Source.left c.args.input.now) c.ending.result line rule is (rw c.ending.ensures c.run.ensures.found)

pub returns-clause-complete : goal.returns-clause-complete
returns-clause-complete g c =
    complete_by (g.S.Source.left c.args.input.now) c.ending.result (g.S.Source.faults c.args.input.now) (g.S.Source.faults c.run.new.input)
    (λ e. c.run.ensures.reads.counted (read_only c.run.result (sym c.ending.ensures ∙ e))) (rw c.ending.ensures c.run.ensures.found)
