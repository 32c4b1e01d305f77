use Rattle.std.proofs.Common.{subst, sym}
use Rattle.schedule_replay.specs.declared.stage.Stage.{Stage}
use Rattle.schedule_replay.specs.Stages.{IsAtHeader, TakesHeader}
use Rattle.schedule_replay.proofs.StageLaws.{header_line}
use Rattle.schedule_replay.proofs.stage.StagePlayer.take_line.Goals as goal

pub returns-in-Header-clause-taken : goal.returns-in-Header-clause-taken
returns-in-Header-clause-taken c =
    let h : IsAtHeader c.args.self.now = rw c.in-Header.is tt in
    header_line c.args.self.now c.take_header.new.self c.args.number c.args.line.now c.take_header.result h c.requires.ready c.requires.short
    (subst (λ (s : Stage). TakesHeader c.args.line.now s c.take_header.new.self c.take_header.result) (sym c.in-Header.is) c.take_header.ensures)
