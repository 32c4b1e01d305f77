use Rattle.std.proofs.Common.{rules, sym, subst, ℕ, length, ◌/◌}
use Rattle.pool_arena.specs.Nodes.{IsOnTheWay, head, rest_of}
use Rattle.pool_arena.proofs.Slots.{no_slot}
use Rattle.pool_arena.proofs.Found.{way_on}
use Rattle.pool_arena.proofs.places.Places.last_held.Goals as goal

pub loop-index-preserved : goal.loop-index-preserved
loop-index-preserved c =
    let heads = c.args.self.now.heads.items in
    let nodes = c.args.self.now.nodes.items in
    record {
      held = search rules;
      way = subst (λ (x : ℕ). IsOnTheWay nodes c.args.key (head heads c.args.key) (rest_of (length heads) c.args.key) x (c.loop-index.rest / 2)) (sym c.link-index.ensures)
          (way_on heads nodes c.requires.can_add.sound.kept c.args.key (no_slot nodes c.args.key c.requires.can_add.vacant) (head heads c.args.key) (rest_of (length heads) c.args.key) c.loop-index.index c.loop-index.rest c.loop-index.invariant.held c.loop-index.invariant.way);
    }
