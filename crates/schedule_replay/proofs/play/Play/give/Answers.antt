use Rattle.std.proofs.lemmas.Result.{err_from_is_err_and}
use Rattle.host_core.proofs.Straying.{no-some}
use Rattle.schedule_replay.proofs.PlayLaws.{takes-line, breaks-line}
use Rattle.schedule_replay.proofs.play.Play.give.Goals as goal

pub returns-in_err-tell-clause-taken : goal.returns-in_err-tell-clause-taken
returns-in_err-tell-clause-taken g c =
    let p = err_from_is_err_and c.from_residual-in_err-tell.result c.from_residual-in_err-tell.ensures.1 in
    let taken = rw (no-some c.in_ok-given.field-0 c.in_default.not-Some) at c.in_ok-given.ensures.ok in
    rw (p.1, p.2) (λ text short spelled rest.
    breaks-line (g.M.Machine.reads c.args.self.now.version) g.M.Machine.misfit (g.M.Machine.standing c.args.self.now.machine) (g.M.Machine.standing c.take_at_once.new.self) c.args.line c.args.given c.args.self.now.text.items c.take_at_once.new.text.items c.tell.new.text.items text rest short c.requires.last spelled
    taken c.in_err-tell.ensures)

pub returns-clause-taken : goal.returns-clause-taken
returns-clause-taken g c = λ text short spelled rest.
    let taken = rw (no-some c.in_ok-given.field-0 c.in_default.not-Some) at c.in_ok-given.ensures.ok in
    takes-line (g.M.Machine.reads c.args.self.now.version) g.M.Machine.misfit (g.M.Machine.standing c.args.self.now.machine) (g.M.Machine.standing c.take_at_once.new.self) c.args.line c.args.given c.args.self.now.text.items c.take_at_once.new.text.items c.tell.new.text.items text rest short c.requires.last spelled
    taken (g.M.Machine.standing c.tell.new.machine) c.in_ok-tell.ensures
