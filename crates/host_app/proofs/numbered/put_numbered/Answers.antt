use Rattle.std.proofs.Common.{◌≡◌, ◌∙◌, ◌+◌, ◌++◌, length, length-append, Err, subst, ℕ, arith}
use Rattle.std.specs.Fmt.{decimal}
use Rattle.std.proofs.lemmas.Result.{err_from_is_err_and}
use Rattle.outside.proofs.OutputLaws.{puts-then, puts-first, leaves-then}
use Rattle.outside.specs.Outputs.{LeavesRoom}
use Rattle.host_app.proofs.numbered.put_numbered.Goals as goal

pub returns-in_err-put_all-clause-bytes : goal.returns-in_err-put_all-clause-bytes
returns-in_err-put_all-clause-bytes g c =
    let p = err_from_is_err_and c.from_residual.result c.from_residual.ensures.1 in
    rw p.1 (puts-first _ _ c.args.before.now (decimal c.args.number ++ c.args.after.now) c.in_err-put_all.field-0.0 c.in_err-put_all.ensures.bytes)

pub returns-in_err-put_all-2-clause-bytes : goal.returns-in_err-put_all-2-clause-bytes
returns-in_err-put_all-2-clause-bytes g c =
    let p = err_from_is_err_and c.from_residual-in_err-put_all-2.result c.from_residual-in_err-put_all-2.ensures.1 in
    let digits : c.as_bytes.result.now ≡ decimal c.args.number = c.as_bytes.ensures.value ∙ c.format.ensures.text in
    rw p.1 (puts-then _ _ _ c.args.before.now (decimal c.args.number ++ c.args.after.now) (Err c.in_err-put_all-2.field-0.0) c.in_ok-put_all.ensures.bytes
    (puts-first _ _ (decimal c.args.number) c.args.after.now c.in_err-put_all-2.field-0.0 (rw digits at c.in_err-put_all-2.ensures.bytes)))

pub returns-clause-bytes : goal.returns-clause-bytes
returns-clause-bytes g c =
    let digits : c.as_bytes.result.now ≡ decimal c.args.number = c.as_bytes.ensures.value ∙ c.format.ensures.text in
    puts-then _ _ _ c.args.before.now (decimal c.args.number ++ c.args.after.now) c.put_all-3.result c.in_ok-put_all.ensures.bytes
    (puts-then _ _ _ (decimal c.args.number) c.args.after.now c.put_all-3.result (rw digits at c.in_ok-put_all-2.ensures.bytes) c.put_all-3.ensures.bytes)

pub returns-clause-room : goal.returns-clause-room
returns-clause-room g c =
    let digits : c.as_bytes.result.now ≡ decimal c.args.number = c.as_bytes.ensures.value ∙ c.format.ensures.text in
    let rest = decimal c.args.number ++ c.args.after.now in
    let whole : length c.args.before.now + (length (decimal c.args.number) + length c.args.after.now) ≡ length (c.args.before.now ++ rest) =
    omega (arith, length-append (decimal c.args.number) c.args.after.now, length-append c.args.before.now rest) in
    subst (λ (n : ℕ). LeavesRoom (g.K.Sink.room c.args.out.now) (g.K.Sink.room c.put_all-3.new.out) c.put_all-3.result n) whole
    (leaves-then _ _ _ (length c.args.before.now) (length (decimal c.args.number) + length c.args.after.now) c.put_all-3.result c.in_ok-put_all.ensures.room
    (leaves-then _ _ _ (length (decimal c.args.number)) (length c.args.after.now) c.put_all-3.result (rw digits at c.in_ok-put_all-2.ensures.room) c.put_all-3.ensures.room))
