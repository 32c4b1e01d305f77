use Rattle.std.proofs.Common.{ap, count_by, is_some}
use Rattle.pool_arena.specs.Places.{slots_of}
use Rattle.pool_arena.proofs.Keeps.{empty_tied, empty-pairs}
use Rattle.pool_arena.proofs.Arena.new.Goals as goal

pub invariant_of-result : goal.invariant_of-result
invariant_of-result g c = record {
  places = c.new-2.ensures.sound;
  tied = empty_tied (slots_of c.new-2.result) c.new.result c.new-2.ensures.empty (ap (count_by is_some) c.new.ensures.empty);
}

pub returns-clause-empty : goal.returns-clause-empty
returns-clause-empty g c = empty-pairs (slots_of c.new-2.result) c.new.result c.new-2.ensures.empty
