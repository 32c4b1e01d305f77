use Rattle.std.proofs.Common.{◌≡◌, ◌≤◌, ◌+◌, [], length}
use Rattle.line_pieces.specs.Readings.{IsBetweenBytes, room_left}
use Rattle.line_pieces.specs.States.{reading_of}
use Rattle.schedule_replay.specs.Passes.{PassesSome}
use Rattle.schedule_replay.proofs.session.take_piece.Given as goal

abbrev pub invariant-runs : goal.invariant-runs
invariant-runs g l = record {
  ready : IsBetweenBytes g.P.Player.ready (reading_of l.reader);
  empty : g.P.Player.text_in l.reader.taker ≡ [];
  passed : PassesSome g.P.Player.plays (reading_of l.initial.reader) l.piece (reading_of l.reader) (g.K.Sink.held l.initial.out) (g.K.Sink.held l.out) l.rest;
  progress : room_left (reading_of l.reader) + length l.piece ≤ room_left (reading_of l.initial.reader) + length l.rest;
  writes : g.K.Sink.faults l.initial.out ≤ g.K.Sink.faults l.out;
}

abbrev pub decreases-runs : goal.decreases-runs
decreases-runs g l = length l.rest
