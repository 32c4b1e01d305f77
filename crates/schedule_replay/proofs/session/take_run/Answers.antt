use Rattle.std.proofs.Common.{[]}
use Rattle.std.proofs.lemmas.Result.{err_from_is_err_and}
use Rattle.line_pieces.specs.States.{reading_of}
use Rattle.schedule_replay.proofs.SessionLaws.{passes-cut, no-put}
use Rattle.schedule_replay.proofs.session.take_run.Goals as goal

pub returns-in_err-put_text-clause-passed : goal.returns-in_err-put_text-clause-passed
returns-in_err-put_text-clause-passed g c =
    let p = err_from_is_err_and c.from_residual.result c.from_residual.ensures.1 in
    rw (p.1, p.2) (passes-cut g.P.Player.plays g.P.Player.text_in (reading_of c.args.reader.now) (reading_of c.feed_until_full-taken.new.self) _ c.args.piece.now _ _ c.feed_until_full-taken.result c.in_err-put_text.field-0.0 c.in_err-put_text.ensures.bytes c.feed_until_full-taken.ensures.taken c.in_err-put_text.ensures.front)

pub returns-in_err-taken-clause-cause : goal.returns-in_err-taken-clause-cause
returns-in_err-taken-clause-cause g c =
    let p = err_from_is_err_and c.from_residual-in_err-taken.result c.from_residual-in_err-taken.ensures.1 in
    rw (p.1, p.2) (no-put c.in_err-taken.field-0.0 _ _ _ _ (c.in_err-taken.ensures.taken []) c.in_ok-put_text.ensures.cause.later)
