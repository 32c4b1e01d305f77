use Rattle.std.proofs.Common.{◌-◌, length, is_some, IsTrue}
use Rattle.pool_arena.specs.Nodes.{IsOnTheWay, head, rest_of, pair_at}
use Rattle.pool_arena.proofs.places.Places.last_held.Given as goal

abbrev pub invariant-loop-index : goal.invariant-loop-index
invariant-loop-index l = record {
  held : IsTrue (is_some (pair_at l.self.nodes.items l.index));
  way : IsOnTheWay l.self.nodes.items l.key (head l.self.heads.items l.key) (rest_of (length l.self.heads.items) l.key) l.index l.rest;
}

abbrev pub decreases-loop-index : goal.decreases-loop-index
decreases-loop-index l = length l.self.nodes.items - l.index
