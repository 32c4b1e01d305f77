use Rattle.std.proofs.Common.{◌≡◌, ◌+◌, ◌≤◌, length}
use Rattle.references.specs.Linked.{numbered}
use Rattle.references.specs.Pairs.{IsAbove}
use Rattle.references.proofs.tests.add_references.Given as goal

abbrev pub invariant-loop-reference : goal.invariant-loop-reference
invariant-loop-reference l = record {
  newest : IsAbove (numbered l.reference) l.refs.pairs;
  length : length l.refs.pairs + l.fn.from ≡ length l.fn.refs.pairs + l.reference;
  room : l.fn.refs.spare + l.fn.from ≤ l.refs.spare + l.reference;
}
