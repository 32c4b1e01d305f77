use Rattle.schedule_replay.proofs.PlayLaws.{refuses-form}
use Rattle.schedule_replay.proofs.play.Play.take_line.Goals as goal

pub returns-in-Err-NoForm-clause-taken : goal.returns-in-Err-NoForm-clause-taken
returns-in-Err-NoForm-clause-taken g c = λ rest.
    refuses-form (g.M.Machine.reads c.args.self.now.version) g.M.Machine.misfit (g.M.Machine.standing c.args.self.now.machine) c.requires.ready c.args.number c.args.self.now.text.items c.refuse.new.self.text.items c.args.line.now rest c.refuse.result
    c.requires.short c.requires.last (rw c.in-Err-NoForm.field-0-is at c.in-Err-NoForm.ensures.value) c.refuse.ensures
