use Rattle.std.proofs.lemmas.Result.{err_from_is_err_and}
use Rattle.line_pieces.specs.States.{reading_of}
use Rattle.schedule_replay.proofs.SessionLaws.{ends-cut}
use Rattle.schedule_replay.proofs.session.take_end.Goals as goal

pub returns-in_err-put_text-clause-passed : goal.returns-in_err-put_text-clause-passed
returns-in_err-put_text-clause-passed g c =
    let p = err_from_is_err_and c.from_residual.result c.from_residual.ensures.1 in
    rw (p.1, p.2) (ends-cut g.P.Player.plays g.P.Player.text_in (reading_of c.args.reader.now) c.finish-taken.new.self.taker _ _ c.finish-taken.result c.in_err-put_text.field-0.0 c.in_err-put_text.ensures.bytes c.finish-taken.ensures)
