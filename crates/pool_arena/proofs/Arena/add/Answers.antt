use Rattle.std.proofs.Common.{◌≡◌, ap, sym, ◌∙◌, subst, arith, ℕ}
use Rattle.std.specs.FinMap as map
use Rattle.std.specs.Ordering.{nat_cmp}
use Rattle.pool_arena.specs.Arena.{held, get, AreTied}
use Rattle.pool_arena.specs.Places.{slots_of}
use Rattle.pool_arena.proofs.Keeps.{add-tied, add-pairs, no_place, pairs}
use Rattle.pool_arena.proofs.Arena.add.Goals as goal

pub insert-requires : goal.insert-requires
insert-requires g c =
    let spare : (held c.self.inside.places c.self.inside.slots).spare ≡ c.args.self.now.spare = ap (λ a. a.spare) c.self.view_is in
    record {
      sound = c.self.invariant.places;
      vacant = no_place (slots_of c.self.inside.places) c.self.inside.slots c.args.key c.self.invariant.tied (ap (λ a. get a c.args.key) c.self.view_is ∙ c.requires.vacant);
      room = omega (arith, spare, c.requires.room);
    }

pub invariant_of-self : goal.invariant_of-self
invariant_of-self g c = record {
  places = c.insert.ensures.sound;
  tied = subst (λ (m : map.FinMap nat_cmp ℕ). AreTied m c.insert_reserved-slot.new.self) (sym c.insert.ensures.slots)
      (add-tied (slots_of c.self.inside.places) c.self.inside.slots c.insert_reserved-slot.new.self c.self.invariant.tied c.args.key c.insert_reserved-slot.result c.args.value
      c.insert_reserved-slot.ensures.updates c.insert_reserved-slot.ensures.was_vacant (ap (λ a. get a c.args.key) c.self.view_is ∙ c.requires.vacant) c.insert_reserved-slot.ensures.len);
}

pub returns-clause-pairs : goal.returns-clause-pairs
returns-clause-pairs g c =
    ap (λ m. pairs m c.insert_reserved-slot.new.self) c.insert.ensures.slots
    ∙ add-pairs (slots_of c.self.inside.places) c.self.inside.slots c.insert_reserved-slot.new.self c.self.invariant.tied c.args.key c.insert_reserved-slot.result c.args.value
    c.insert_reserved-slot.ensures.updates c.insert_reserved-slot.ensures.was_vacant
    ∙ ap (λ a. map.insert a.pairs c.args.key c.args.value) c.self.view_is
