use Rattle.std.proofs.Common.{◌≡◌, ◌∙◌, Err, ap, length, arith}
use Rattle.std.proofs.lemmas.Result.{err_from_is_err_and}
use Rattle.tree_specs.specs.declared.schedule.Reason.TheVariants.{NotAsked, Token}
use Rattle.schedule_replay.specs.Questions.{answered_of}
use Rattle.schedule_replay.proofs.TextLaws.{taken-back}
use Rattle.schedule_replay.proofs.PlayLaws.{takes-offer, takes-line, breaks-line, refuses-input}
use Rattle.schedule_replay.proofs.play.Play.answer.Goals as goal

pub returns-in_err-tell-in-Ok-clause-taken : goal.returns-in_err-tell-in-Ok-clause-taken
returns-in_err-tell-in-Ok-clause-taken g c =
    let p = err_from_is_err_and c.from_residual-in_err-tell-in-Ok.result c.from_residual-in_err-tell-in-Ok.ensures.1 in
    let s = g.M.Machine.standing c.args.self.now.machine in
    let t = g.M.Machine.standing c.offer.new.self in
    let before = c.args.self.now.text.items in
    let middle = c.write_question.new.self.text.items in
    let taken = rw c.in_ok-write_question.ensures.machine at c.in-Ok.ensures.ok in
    rw (p.1, p.2) (λ text short spelled rest.
    breaks-line (g.M.Machine.reads c.args.self.now.version) g.M.Machine.misfit s t c.args.line c.args.given before middle c.tell.new.text.items text rest short c.requires.last spelled
    (takes-offer (g.M.Machine.reads c.args.self.now.version) g.M.Machine.misfit s c.args.given t before middle c.in_ok-write_question.ensures.text taken) c.in_err-tell-in-Ok.ensures)

pub returns-in-Ok-clause-taken : goal.returns-in-Ok-clause-taken
returns-in-Ok-clause-taken g c = λ text short spelled rest.
    let s = g.M.Machine.standing c.args.self.now.machine in
    let t = g.M.Machine.standing c.offer.new.self in
    let before = c.args.self.now.text.items in
    let middle = c.write_question.new.self.text.items in
    let taken = rw c.in_ok-write_question.ensures.machine at c.in-Ok.ensures.ok in
    takes-line (g.M.Machine.reads c.args.self.now.version) g.M.Machine.misfit s t c.args.line c.args.given before middle c.tell.new.text.items text rest short c.requires.last spelled
    (takes-offer (g.M.Machine.reads c.args.self.now.version) g.M.Machine.misfit s c.args.given t before middle c.in_ok-write_question.ensures.text taken) (g.M.Machine.standing c.tell.new.machine) c.in_ok-tell-in-Ok.ensures

pub returns-in-NotAsked-clause-taken : goal.returns-in-NotAsked-clause-taken
returns-in-NotAsked-clause-taken g c = λ text short spelled rest.
    let s = g.M.Machine.standing c.args.self.now.machine in
    let same = c.in-Err.ensures.err ∙ c.in_ok-write_question.ensures.machine in
    let n : c.len-began.result ≡ length c.args.self.now.text.items = omega arith in
    let back = c.truncate.ensures.items ∙ taken-back c.args.self.now.text.items (answered_of s.asked) c.write_question.new.self.text.items c.len-began.result n c.in_ok-write_question.ensures.text in
    refuses-input (g.M.Machine.reads c.args.self.now.version) g.M.Machine.misfit s c.requires.ready c.args.line c.args.self.now.text.items c.refuse.new.self.text.items text rest c.args.given NotAsked c.refuse.result short c.requires.last spelled
    (rw c.in_ok-write_question.ensures.machine at c.in-Err.ensures.not_asked (ap Err c.in-NotAsked.is)) (rw (same, back) at c.refuse.ensures)

pub returns-in-Taken-clause-taken : goal.returns-in-Taken-clause-taken
returns-in-Taken-clause-taken g c = λ text short spelled rest.
    let s = g.M.Machine.standing c.args.self.now.machine in
    let same = c.in-Err.ensures.err ∙ c.in_ok-write_question.ensures.machine in
    let n : c.len-began.result ≡ length c.args.self.now.text.items = omega arith in
    let back = c.truncate.ensures.items ∙ taken-back c.args.self.now.text.items (answered_of s.asked) c.write_question.new.self.text.items c.len-began.result n c.in_ok-write_question.ensures.text in
    refuses-input (g.M.Machine.reads c.args.self.now.version) g.M.Machine.misfit s c.requires.ready c.args.line c.args.self.now.text.items c.refuse-in-Taken.new.self.text.items text rest c.args.given Token c.refuse-in-Taken.result short c.requires.last spelled
    (rw c.in_ok-write_question.ensures.machine at c.in-Err.ensures.taken c.in-Taken.field-0 (ap Err c.in-Taken.is)) (rw (same, back) at c.refuse-in-Taken.ensures)
