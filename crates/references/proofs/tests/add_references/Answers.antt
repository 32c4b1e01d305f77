use Rattle.std.proofs.Common.{◌+◌, ◌<◌, arith}
use Rattle.references.specs.Linked.{numbered}
use Rattle.references.proofs.Finding.{above-more}
use Rattle.references.proofs.tests.add_references.Goals as goal

pub loop-reference-preserved : goal.loop-reference-preserved
loop-reference-preserved c =
    let at = c.loop-reference.reference in
    let last : at < at + 1 = omega arith in
    let spare = c.add_ref.ensures.spare in
    let room = c.loop-reference.invariant.room in
    let count = c.loop-reference.invariant.length in
    record {
      newest = rw c.add_ref.ensures.pairs (last, above-more _ (numbered at) (numbered (at + 1)) (omega arith) c.loop-reference.invariant.newest);
      length = rw c.add_ref.ensures.pairs (omega (arith, count));
      room = omega (arith, spare, room);
    }
