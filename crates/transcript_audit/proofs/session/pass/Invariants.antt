use Rattle.std.proofs.Common.{◌≤◌}
use Rattle.line_pieces.specs.Readings.{IsBetweenBytes, room_left}
use Rattle.line_pieces.specs.States.{reading_of}
use Rattle.transcript_audit.specs.Audits.{IsReady}
use Rattle.transcript_audit.proofs.Sessions.{SoFar}
use Rattle.transcript_audit.proofs.session.pass.Given as goal

abbrev pub invariant-reads : goal.invariant-reads
invariant-reads g l = record {
  ready : IsBetweenBytes IsReady (reading_of l.reader);
  so_far : SoFar (g.S.Source.left l.initial.input) (g.S.Source.left l.input) (reading_of l.reader);
  reads : g.S.Source.faults l.initial.input ≤ g.S.Source.faults l.input;
}

abbrev pub decreases-reads : goal.decreases-reads
decreases-reads g l = room_left (reading_of l.reader)
