use Rattle.std.proofs.Common.{ap, sym, ◌∙◌}
use Rattle.std.specs.Option.{option_and_then}
use Rattle.slab.specs.Slab.{get as slot_get}
use Rattle.pool_arena.specs.Arena.{get}
use Rattle.pool_arena.specs.Places.{slots_of}
use Rattle.pool_arena.proofs.Keeps.{reads}
use Rattle.pool_arena.proofs.Arena.find.Goals as goal

pub returns-in-Some : goal.returns-in-Some
returns-in-Some g c =
    c.get-in-Some.ensures
    ∙ sym (ap (λ a. get a c.args.key) (sym c.self.view_is) ∙ reads (slots_of c.self.inside.places) c.self.inside.slots c.args.key ∙ ap (option_and_then (slot_get c.self.inside.slots)) (sym c.in-Some.ensures))

pub returns-in-None : goal.returns-in-None
returns-in-None g c =
    sym (ap (λ a. get a c.args.key) (sym c.self.view_is) ∙ reads (slots_of c.self.inside.places) c.self.inside.slots c.args.key ∙ ap (option_and_then (slot_get c.self.inside.slots)) (sym c.in-None.ensures))
