use Rattle.std.proofs.Common.{List, sym, ◌∙◌, subst, ℕ, ◌<◌, length, ap}
use Rattle.pool_arena.specs.declared.node.Node.{Node}
use Rattle.pool_arena.specs.Nodes.{IsKept}
use Rattle.pool_arena.specs.Places.{slots_in, slots_of}
use Rattle.pool_arena.proofs.Keeps.{removed_none}
use Rattle.pool_arena.proofs.Found.{not_found, slot_where_found}
use Rattle.pool_arena.proofs.Taking.{taken-kept, taken-slots}
use Rattle.pool_arena.proofs.places.Places.remove.Goals as goal

pub returns-in-Some-clause-sound : goal.returns-in-Some-clause-sound
returns-in-Some-clause-sound c =
    let own = c.in-Some.ensures.own in record {
      kept = subst (λ (hs : List ℕ). IsKept hs c.vacate.new.self.nodes.items) (sym c.vacate.ensures.heads)
          (subst (λ (ns : List Node). IsKept c.args.self.now.heads.items ns) (sym (c.vacate.ensures.nodes own.0 own.1))
          (taken-kept c.args.self.now.heads.items c.args.self.now.nodes.items c.requires.kept c.in-Some.index own.0 own.1));
      ready = λ h. subst (λ (hs : List ℕ). 0 < length hs) (sym c.vacate.ensures.heads) (c.requires.ready (subst (λ (x : ℕ). 0 < x) c.vacate.ensures.spare h));
    }

pub returns-in-Some-clause-value : goal.returns-in-Some-clause-value
returns-in-Some-clause-value c =
    let own = c.in-Some.ensures.own in
    c.vacate.ensures.value own.0 own.1
    ∙ sym (slot_where_found c.args.self.now.heads.items c.args.self.now.nodes.items c.requires.kept c.args.key c.in-Some.index own.0 own.1 own.2 c.in-Some.ensures.found)

pub returns-in-Some-clause-slots : goal.returns-in-Some-clause-slots
returns-in-Some-clause-slots c =
    let own = c.in-Some.ensures.own in
    ap slots_in (c.vacate.ensures.nodes own.0 own.1)
    ∙ taken-slots c.args.self.now.heads.items c.args.self.now.nodes.items c.requires.kept c.in-Some.index own.0 own.1 c.args.key own.2 c.in-Some.ensures.found

pub returns-in-None-clause-value : goal.returns-in-None-clause-value
returns-in-None-clause-value c = sym (not_found c.args.self.now.heads.items c.args.self.now.nodes.items c.requires.kept c.args.key c.in-None.ensures.found)

pub returns-in-None-clause-slots : goal.returns-in-None-clause-slots
returns-in-None-clause-slots c =
    sym (removed_none (slots_of c.args.self.now) c.args.key (not_found c.args.self.now.heads.items c.args.self.now.nodes.items c.requires.kept c.args.key c.in-None.ensures.found))
