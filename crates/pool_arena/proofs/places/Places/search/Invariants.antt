use Rattle.std.proofs.Common.{ℕ, ◌-◌, length}
use Rattle.pool_arena.specs.Nodes.{IsFound, Leads}
use Rattle.pool_arena.proofs.places.Places.search.Given as goal

abbrev pub invariant-loop-node : goal.invariant-loop-node
invariant-loop-node l = (i : ℕ) → IsFound l.self.heads.items l.self.nodes.items l.key i → Leads l.self.nodes.items l.key l.link l.rest i

abbrev pub decreases-loop-node : goal.decreases-loop-node
decreases-loop-node l = length l.self.nodes.items - l.link
