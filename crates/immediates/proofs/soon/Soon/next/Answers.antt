use Rattle.std.proofs.Common.{ℕ, List, sym, ap, ◌∙◌}
use Rattle.std.specs.FinMap as map
use Rattle.std.specs.Option.{option_map}
use Rattle.linked_lanes.specs.Lane.{last}
use Rattle.linked_lanes.proofs.Families.{unknown-empty}
use Rattle.immediates.specs.Waiting.{Waiting, next_in}
use Rattle.immediates.specs.Changes.{coming_of}
use Rattle.immediates.specs.Linked.{numbered, context_at, sides_at, lane_in}
use Rattle.immediates.proofs.Lanes.{soon-next}
use Rattle.immediates.proofs.soon.Soon.next.Goals as goal

pub returns-in-None-clause-next : goal.returns-in-None-clause-next
returns-in-None-clause-next c =
    let xs = coming_of c.self.inside.changes.items in
    sym (ap (λ (v : Waiting). next_in v.coming c.args.c) (sym c.self.view_is) ∙ soon-next xs c.args.c
    ∙ ap (λ (l : List ℕ). option_map numbered (last l)) (unknown-empty (context_at c.self.inside.nodes.pairs) (sides_at c.self.inside.nodes.pairs) (map.get c.self.inside.ends.lanes) (lane_in xs) c.self.invariant.family
    c.args.c.0 (sym c.get.ensures ∙ c.in-None.is)))

pub returns-in-Some-clause-next : goal.returns-in-Some-clause-next
returns-in-Some-clause-next c =
    c.obj.ensures ∙ ap (option_map numbered) (c.self.invariant.family.told c.args.c.0 c.in-Some.ends (sym c.get.ensures ∙ c.in-Some.is)).at_last
    ∙ sym (soon-next (coming_of c.self.inside.changes.items) c.args.c) ∙ ap (λ (v : Waiting). next_in v.coming c.args.c) c.self.view_is
