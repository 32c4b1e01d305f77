use Rattle.std.proofs.Common.{◌≡◌, ℕ, zero, suc, [], ◌++◌, codes, refl}
use Rattle.std.proofs.lemmas.Result.{err_from_is_err_and}
use Rattle.outside.proofs.OutputLaws.{puts-then, puts-first}
use Rattle.host_app.specs.Statuses.{numbered, flaw_text}
use Rattle.host_app.proofs.saying.say_flaw.Goals as goal

-- a rule that is broken is told behind the line
rule-told : (line rule : ℕ) → (rule ≡ 0 → ⊥) → flaw_text line rule ≡ numbered (codes "line ") line (codes ": rule ") ++ numbered [] rule (codes "\n")
rule-told line zero some = absurd (some refl)
rule-told line (suc rule) some = refl

pub returns-in_err-put_numbered-clause-bytes : goal.returns-in_err-put_numbered-clause-bytes
returns-in_err-put_numbered-clause-bytes g c =
    let p = err_from_is_err_and c.from_residual.result c.from_residual.ensures.1 in
    let told = rule-told c.args.line c.args.rule c.if-rule-eq0.false in
    rw (told, p.1) (puts-first _ _ (numbered (codes "line ") c.args.line (codes ": rule ")) (numbered [] c.args.rule (codes "\n")) c.in_err-put_numbered.field-0.0 c.in_err-put_numbered.ensures.bytes)

pub returns-clause-bytes : goal.returns-clause-bytes
returns-clause-bytes g c =
    let told = rule-told c.args.line c.args.rule c.if-rule-eq0.false in
    rw told (puts-then _ _ _ (numbered (codes "line ") c.args.line (codes ": rule ")) (numbered [] c.args.rule (codes "\n")) c.put_numbered-2.result
    c.in_ok-put_numbered.ensures.bytes (rw c.from.ensures at c.put_numbered-2.ensures.bytes))
