use Rattle.std.proofs.Common.{◌∙◌, sym, refl, inl, inr}
use Rattle.outside.specs.declared.output.PutError.TheVariants as put_errors
use Rattle.host_app.proofs.AuditLaws.{flaw-ends, memory-error, none-ends, or-front, write-error, writes-front, writes-orderly}
use Rattle.host_app.proofs.auditing.audit_transcript.Goals as goal

pub returns-in-Orderly-clause-orderly : goal.returns-in-Orderly-clause-orderly
returns-in-Orderly-clause-orderly g c = λ done.
    writes-orderly (g.S.Source.left c.args.input.now) _ _ c.in-Orderly.lines c.put_numbered.result (c.audit.ensures.orderly c.in-Orderly.lines c.in-Orderly.is) c.put_numbered.ensures.bytes
    (sym c.from.ensures ∙ done)

pub returns-in-Orderly-clause-write_front : goal.returns-in-Orderly-clause-write_front
returns-in-Orderly-clause-write_front g c = λ fault.
    writes-front (g.S.Source.left c.args.input.now) _ _ c.in-Orderly.lines c.put_numbered.result (c.audit.ensures.orderly c.in-Orderly.lines c.in-Orderly.is) c.put_numbered.ensures.bytes
    put_errors.Write (write-error c.put_numbered.result (sym c.from.ensures ∙ fault))

pub returns-in-Orderly-clause-memory_front : goal.returns-in-Orderly-clause-memory_front
returns-in-Orderly-clause-memory_front g c = λ memory.
    or-front (g.S.Source.left c.args.input.now) (g.K.Sink.held c.args.out.now) (g.K.Sink.held c.put_numbered.new.out)
    (writes-front (g.S.Source.left c.args.input.now) _ _ c.in-Orderly.lines c.put_numbered.result (c.audit.ensures.orderly c.in-Orderly.lines c.in-Orderly.is) c.put_numbered.ensures.bytes
    put_errors.Memory (memory-error c.put_numbered.result (sym c.from.ensures ∙ memory)))

-- ---- a flaw is said

pub returns-in-Orderly-clause-flawed : goal.returns-in-Orderly-clause-flawed
returns-in-Orderly-clause-flawed g c =
    flaw-ends (g.S.Source.left c.args.input.now) c.audit.result _ _ _ c.audit.ensures.read.counted c.audit.ensures.found
    (λ line rule e. elim e [
      | inl b ↦ let is = c.in-Orderly.is in absurd cc
      | inr m ↦ let is = c.in-Orderly.is in absurd cc
    ])

pub returns-in-Broken-clause-flawed : goal.returns-in-Broken-clause-flawed
returns-in-Broken-clause-flawed g c =
    flaw-ends (g.S.Source.left c.args.input.now) c.audit.result _ _ _ c.audit.ensures.read.counted c.audit.ensures.found
    (λ line rule e. elim e [
      | inl b ↦ let is = c.in-Broken.is in inl cc
      | inr m ↦ let is = c.in-Broken.is in absurd cc
    ])

pub returns-in-ReadFault-clause-flawed : goal.returns-in-ReadFault-clause-flawed
returns-in-ReadFault-clause-flawed g c =
    flaw-ends (g.S.Source.left c.args.input.now) c.audit.result _ _ _ c.audit.ensures.read.counted c.audit.ensures.found
    (λ line rule e. elim e [
      | inl b ↦ let is = c.in-ReadFault.is in absurd cc
      | inr m ↦ let is = c.in-ReadFault.is in absurd cc
    ])

pub returns-in-Memory-clause-flawed : goal.returns-in-Memory-clause-flawed
returns-in-Memory-clause-flawed g c = none-ends (g.S.Source.left c.args.input.now) _ _ _ (λ line rule. inr refl)
