use Rattle.std.proofs.Common.{ap, sym, ◌∙◌, subst, ℕ}
use Rattle.std.specs.FinMap as map
use Rattle.std.specs.Ordering.{nat_cmp}
use Rattle.pool_arena.specs.Arena.{AreTied}
use Rattle.pool_arena.specs.Places.{slots_of}
use Rattle.pool_arena.proofs.Keeps.{pairs, pairs_of-slots, same-tied}
use Rattle.pool_arena.proofs.Arena.reserve.Goals as goal

pub invariant_of-self : goal.invariant_of-self
invariant_of-self g c = record {
  places = c.self.invariant.places;
  tied = same-tied (slots_of c.self.inside.places) c.self.inside.slots c.reserve.new.self (ap (λ s. s.slots) c.in_err-reserve.ensures.rest_kept) c.self.invariant.tied;
}

pub returns-in_err-reserve-clause-pairs : goal.returns-in_err-reserve-clause-pairs
returns-in_err-reserve-clause-pairs g c =
    pairs_of-slots (map.entries (slots_of c.self.inside.places)) c.self.inside.slots c.reserve.new.self (ap (λ s. s.slots) c.in_err-reserve.ensures.rest_kept) ∙ ap (λ a. a.pairs) c.self.view_is

pub invariant_of-self-2 : goal.invariant_of-self-2
invariant_of-self-2 g c = record {
  places = c.reserve-2.ensures.same.sound;
  tied = subst (λ (m : map.FinMap nat_cmp ℕ). AreTied m c.reserve.new.self) (sym c.reserve-2.ensures.same.slots)
      (same-tied (slots_of c.self.inside.places) c.self.inside.slots c.reserve.new.self (ap (λ s. s.slots) c.in_ok-reserve.ensures.rest_kept) c.self.invariant.tied);
}

pub returns-clause-pairs : goal.returns-clause-pairs
returns-clause-pairs g c =
    ap (λ m. pairs m c.reserve.new.self) c.reserve-2.ensures.same.slots
    ∙ pairs_of-slots (map.entries (slots_of c.self.inside.places)) c.self.inside.slots c.reserve.new.self (ap (λ s. s.slots) c.in_ok-reserve.ensures.rest_kept) ∙ ap (λ a. a.pairs) c.self.view_is
