use Rattle.std.proofs.Common.{sym, ◌∙◌}
use Rattle.schedule_replay.proofs.RunLaws.{told-all, told-none}
use Rattle.schedule_replay.proofs.telling.tell.Goals as goal

pub returns-then-is_some : goal.returns-then-is_some
returns-then-is_some g c =
    let s = g.M.Machine.standing c.args.machine.now in
    let before = c.args.text.now.items in
    told-all s s before before (told-none s before) (c.question.ensures.waits (sym c.is_some.ensures ∙ c.if-is_some.true))
