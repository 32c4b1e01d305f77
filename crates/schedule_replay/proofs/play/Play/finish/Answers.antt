use Rattle.std.proofs.lemmas.Result.{err_from_is_err_and}
use Rattle.schedule_replay.proofs.PlayLaws.{refuses-cut, ends-play, breaks-end}
use Rattle.schedule_replay.proofs.play.Play.finish.Goals as goal

pub returns-then-cut : goal.returns-then-cut
returns-then-cut g c = λ text short.
    rw c.if-cut.true (refuses-cut (g.M.Machine.reads c.args.self.now.version) g.M.Machine.misfit (g.M.Machine.standing c.args.self.now.machine) c.requires.ready c.args.number c.args.self.now.text.items c.refuse.new.self.text.items text c.refuse.result short
    (c.requires.within c.if-cut.true) c.refuse.ensures)

pub returns-in_err-end_transcript : goal.returns-in_err-end_transcript
returns-in_err-end_transcript g c =
    let p = err_from_is_err_and c.from_residual.result c.from_residual.ensures.1 in
    rw (p.1, p.2) (λ text short. rw c.if-cut.false (breaks-end (g.M.Machine.reads c.args.self.now.version) g.M.Machine.misfit (g.M.Machine.standing c.args.self.now.machine) c.requires.ready c.args.number c.args.self.now.text.items c.end_transcript.new.self.text.items c.in_err-end_transcript.ensures))

pub returns : goal.returns
returns g c = λ text short.
    rw c.if-cut.false (ends-play (g.M.Machine.reads c.args.self.now.version) g.M.Machine.misfit (g.M.Machine.standing c.args.self.now.machine) c.requires.ready c.args.number c.args.self.now.text.items c.end_transcript.new.self.text.items c.in_ok-end_transcript.ensures)
