use Rattle.std.proofs.Common.{◌≤◌, ◌+◌, length}
use Rattle.line_pieces.specs.Readings.{IsBetweenBytes, Leaves, room_left}
use Rattle.line_pieces.specs.States.{reading_of}
use Rattle.line_pieces.proofs.reader.LineReader.feed.Given as goal

abbrev pub invariant-runs : goal.invariant-runs
invariant-runs g l = record {
  ready : IsBetweenBytes g.T.TakesLines.ready (reading_of l.self);
  fed : Leaves g.T.TakesLines.comes (reading_of l.initial.self) l.piece (reading_of l.self) l.rest;
  progress : room_left (reading_of l.self) + length l.piece ≤ room_left (reading_of l.initial.self) + length l.rest;
}

abbrev pub decreases-runs : goal.decreases-runs
decreases-runs g l = length l.rest
