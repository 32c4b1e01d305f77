use Rattle.std.proofs.lemmas.Result.{err_from_is_err_and}
use Rattle.schedule_replay.proofs.RunLaws.{told-broken, told-front, told-nothing}
use Rattle.schedule_replay.proofs.telling.tell_all.Goals as goal

pub returns-in_err-write-in-Some : goal.returns-in_err-write-in-Some
returns-in_err-write-in-Some g c =
    let p = err_from_is_err_and c.from_residual-in_err-write-in-Some.result c.from_residual-in_err-write-in-Some.ensures.1 in
    let next = rw c.in-Some.is at c.in_ok-told.ensures in
    rw p.1 (told-front (g.M.Machine.standing c.args.machine.now) (g.M.Machine.standing c.tells.machine) (g.M.Machine.standing c.next.new.self) c.args.text.now.items c.tells.text.items c.write.new.text.items (g.M.Machine.text_of c.in-Some.told)
    c.tells.invariant next c.in_err-write-in-Some.ensures)

pub returns-in_err-told : goal.returns-in_err-told
returns-in_err-told g c =
    let p = err_from_is_err_and c.from_residual.result c.from_residual.ensures.1 in
    let so = told-nothing (g.M.Machine.standing c.args.machine.now) (g.M.Machine.standing c.tells.machine) (g.M.Machine.standing c.next.new.self) c.args.text.now.items c.tells.text.items c.tells.invariant c.in_err-told.ensures in
    rw p.1 (told-broken (g.M.Machine.standing c.args.machine.now) (g.M.Machine.standing c.next.new.self) c.args.text.now.items c.tells.text.items so)
