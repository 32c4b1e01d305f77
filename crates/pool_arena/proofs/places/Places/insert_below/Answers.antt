use Rattle.std.proofs.Common.{sym, subst, ℕ}
use Rattle.pool_arena.specs.Nodes.{IsReachable}
use Rattle.pool_arena.proofs.Slots.{no_slot}
use Rattle.pool_arena.proofs.Found.{reachable}
use Rattle.pool_arena.proofs.places.Places.insert_below.Goals as goal

pub fill-requires-clause-reachable : goal.fill-requires-clause-reachable
fill-requires-clause-reachable c =
    let heads = c.args.self.now.heads.items in
    let nodes = c.args.self.now.nodes.items in
    subst (λ (x : ℕ). IsReachable heads nodes c.args.key x) (sym c.link-link.ensures)
    (reachable heads nodes c.requires.can_add.sound.kept c.args.key (no_slot nodes c.args.key c.requires.can_add.vacant) c.last_held-last.result.0 c.last_held-last.result.1 c.last_held-last.ensures.held c.last_held-last.ensures.way)
