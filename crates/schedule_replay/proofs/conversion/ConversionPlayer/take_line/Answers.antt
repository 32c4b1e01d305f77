use Rattle.std.proofs.Common.{subst}
use Rattle.tree_specs.specs.declared.schedule.Version.{Version}
use Rattle.std.specs.Prelude.{Option}
use Rattle.schedule_replay.specs.Converting.{is_next}
use Rattle.schedule_replay.proofs.ConvertLaws.{headed, turned}
use Rattle.schedule_replay.proofs.conversion.ConversionPlayer.take_line.Goals as goal

pub returns-in-None-clause-taken : goal.returns-in-None-clause-taken
returns-in-None-clause-taken c =
    headed c.args.self.now c.take_header.new.self c.args.number c.args.line.now c.take_header.result c.in-None.is
    (subst (λ (o : Option Version). is_next o c.args.number) c.in-None.is c.requires.ready) c.requires.short c.take_header.ensures

pub returns-in-Some-clause-taken : goal.returns-in-Some-clause-taken
returns-in-Some-clause-taken c =
    turned c.args.self.now c.turn_line.new.self c.in-Some.version c.args.number c.args.line.now c.turn_line.result c.in-Some.is c.turn_line.ensures.version c.requires.short c.requires.last c.turn_line.ensures.turned
