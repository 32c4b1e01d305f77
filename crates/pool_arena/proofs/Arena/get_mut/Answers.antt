use Rattle.std.proofs.Common.{ap, sym, ◌∙◌}
use Rattle.std.specs.Option.{option_and_then, ghost_name_of}
use Rattle.slab.specs.Slab.{get as slot_get}
use Rattle.pool_arena.specs.Arena.{get, with_value}
use Rattle.pool_arena.specs.Places.{slots_of}
use Rattle.pool_arena.proofs.Keeps.{reads, write-held, write-tied}
use Rattle.pool_arena.proofs.Arena.get_mut.Goals as goal
use borrow.Follows.Closed.{read_of}
use mathlib.Core.Logic.{inr}

pub invariant_of-self-lent : goal.invariant_of-self-lent
invariant_of-self-lent g c lent = (
  λ w. record {
    places = c.self.invariant.places;
    tied = write-tied (slots_of c.self.inside.places) c.self.inside.slots c.self.invariant.tied c.args.key c.in-Some.slot (sym c.in-Some.ensures) w;
  },
  c.self.invariant,
)

pub returns-in-Some : goal.returns-in-Some
returns-in-Some g c =
    let at = sym c.in-Some.ensures in
    let e = λ (w : g.row.T.Denot). write-held c.self.inside.places c.self.inside.slots c.self.invariant.tied c.args.key c.in-Some.slot at w ∙ ap (λ a. with_value a c.args.key w) c.self.view_is in (
      λ j. read_of (ghost_name_of c.get_mut.result) (λ w. e w j) (c.self.view_is j),
      record {
        writes_back = tt;
        value = c.get_mut.ensures.value
            ∙ sym (ap (λ a. get a c.args.key) (sym c.self.view_is) ∙ reads (slots_of c.self.inside.places) c.self.inside.slots c.args.key ∙ ap (option_and_then (slot_get c.self.inside.slots)) at);
      },
    )

pub returns-in-None : goal.returns-in-None
returns-in-None g c = (
  ap inr c.self.view_is,
  record {
    writes_back = tt;
    value = sym (ap (λ a. get a c.args.key) (sym c.self.view_is) ∙ reads (slots_of c.self.inside.places) c.self.inside.slots c.args.key ∙ ap (option_and_then (slot_get c.self.inside.slots)) (sym c.in-None.ensures));
  },
)
