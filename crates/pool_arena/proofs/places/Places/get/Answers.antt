use Rattle.std.proofs.Common.{sym, ◌∙◌}
use Rattle.pool_arena.proofs.Found.{not_found, slot_where_found}
use Rattle.pool_arena.proofs.places.Places.get.Goals as goal

pub returns-in-Some : goal.returns-in-Some
returns-in-Some c =
    let own = c.in-Some.ensures.own in
    c.slot_at.ensures own.0 own.1
    ∙ sym (slot_where_found c.args.self.now.heads.items c.args.self.now.nodes.items c.requires.kept c.args.key c.in-Some.index own.0 own.1 own.2 c.in-Some.ensures.found)

pub returns-in-None : goal.returns-in-None
returns-in-None c = sym (not_found c.args.self.now.heads.items c.args.self.now.nodes.items c.requires.kept c.args.key c.in-None.ensures.found)
