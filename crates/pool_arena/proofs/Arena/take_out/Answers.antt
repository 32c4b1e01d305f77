use Rattle.std.proofs.Common.{ap, sym, ◌∙◌, subst, ℕ, Option, IsSome}
use Rattle.std.specs.FinMap as map
use Rattle.std.specs.Option.{option_and_then}
use Rattle.std.specs.Ordering.{nat_cmp}
use Rattle.slab.specs.Slab.{get as slot_get}
use Rattle.pool_arena.specs.Arena.{get, AreTied}
use Rattle.pool_arena.specs.Places.{slots_of}
use Rattle.pool_arena.proofs.Keeps.{pairs, reads, removed_nothing, removed_none, on_some, take-tied, take-pairs}
use Rattle.pool_arena.proofs.Arena.take_out.Goals as goal

pub invariant_of-self : goal.invariant_of-self
invariant_of-self g c = record {
  places = c.remove.ensures.sound;
  tied = subst (λ (m : map.FinMap nat_cmp ℕ). AreTied m c.try_remove.new.self) (sym c.remove.ensures.slots)
      (take-tied (slots_of c.self.inside.places) c.self.inside.slots c.try_remove.new.self c.self.invariant.tied c.args.key c.in-Some.slot (sym c.in-Some.ensures.value) c.try_remove.ensures.updates
      (on_some c.try_remove.result (subst (λ (o : Option g.row.T.Denot). IsSome o) (sym c.try_remove.ensures.value) (c.self.invariant.tied.filled c.args.key c.in-Some.slot (sym c.in-Some.ensures.value))) c.try_remove.ensures.len));
}

pub invariant_of-self-in-None : goal.invariant_of-self-in-None
invariant_of-self-in-None g c = record {
  places = c.remove.ensures.sound;
  tied = subst (λ (m : map.FinMap nat_cmp ℕ). AreTied m c.self.inside.slots) (sym (c.remove.ensures.slots ∙ removed_none (slots_of c.self.inside.places) c.args.key (sym c.in-None.ensures.value))) c.self.invariant.tied;
}

pub returns-in-Some-clause-value : goal.returns-in-Some-clause-value
returns-in-Some-clause-value g c =
    c.try_remove.ensures.value
    ∙ sym (ap (λ a. get a c.args.key) (sym c.self.view_is) ∙ reads (slots_of c.self.inside.places) c.self.inside.slots c.args.key ∙ ap (option_and_then (slot_get c.self.inside.slots)) (sym c.in-Some.ensures.value))

pub returns-in-Some-clause-pairs : goal.returns-in-Some-clause-pairs
returns-in-Some-clause-pairs g c =
    ap (λ m. pairs m c.try_remove.new.self) c.remove.ensures.slots
    ∙ take-pairs (slots_of c.self.inside.places) c.self.inside.slots c.try_remove.new.self c.self.invariant.tied c.args.key c.in-Some.slot (sym c.in-Some.ensures.value) c.try_remove.ensures.updates
    ∙ ap (λ a. map.remove a.pairs c.args.key) c.self.view_is

pub returns-in-None-clause-value : goal.returns-in-None-clause-value
returns-in-None-clause-value g c =
    sym (ap (λ a. get a c.args.key) (sym c.self.view_is) ∙ reads (slots_of c.self.inside.places) c.self.inside.slots c.args.key ∙ ap (option_and_then (slot_get c.self.inside.slots)) (sym c.in-None.ensures.value))

pub returns-in-None-clause-pairs : goal.returns-in-None-clause-pairs
returns-in-None-clause-pairs g c =
    ap (λ m. pairs m c.self.inside.slots) (c.remove.ensures.slots ∙ removed_none (slots_of c.self.inside.places) c.args.key (sym c.in-None.ensures.value))
    ∙ sym (removed_nothing (slots_of c.self.inside.places) c.self.inside.slots c.args.key (sym c.in-None.ensures.value))
    ∙ ap (λ a. map.remove a.pairs c.args.key) c.self.view_is
