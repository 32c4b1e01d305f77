use Rattle.std.proofs.Common.{◌≤◌, ◌+◌, length}
use Rattle.line_pieces.specs.Readings.{IsBetweenBytes, Leaves, room_left}
use Rattle.line_pieces.specs.States.{reading_of}
use Rattle.line_pieces.proofs.reader.LineReader.feed_until_full.Given as goal

abbrev pub invariant-lines : goal.invariant-lines
invariant-lines g l = record {
  ready : IsBetweenBytes g.T.TakesLines.ready (reading_of l.self);
  fed : Leaves g.T.TakesLines.comes (reading_of l.initial.self) l.piece (reading_of l.self) l.rest;
  progress : room_left (reading_of l.self) + length l.piece ≤ room_left (reading_of l.initial.self) + length l.rest;
  shorter : length l.rest ≤ length l.piece;
}

abbrev pub decreases-lines : goal.decreases-lines
decreases-lines g l = length l.rest
