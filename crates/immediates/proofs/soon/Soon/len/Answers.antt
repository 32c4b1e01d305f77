use Rattle.std.proofs.Common.{ℕ, List, length, sym, ap, ◌∙◌}
use Rattle.std.specs.FinMap as map
use Rattle.linked_lanes.proofs.Families.{unknown-empty}
use Rattle.tree_specs.specs.Events.Pending.{soon_in}
use Rattle.immediates.specs.Waiting.{Waiting}
use Rattle.immediates.specs.Changes.{coming_of}
use Rattle.immediates.specs.Linked.{context_at, sides_at, lane_in}
use Rattle.immediates.proofs.Lanes.{soon-length}
use Rattle.immediates.proofs.soon.Soon.len.Goals as goal

pub returns-in-None : goal.returns-in-None
returns-in-None c =
    let xs = coming_of c.self.inside.changes.items in
    sym (ap (λ (v : Waiting). length (soon_in v.coming c.args.c)) (sym c.self.view_is) ∙ soon-length xs c.args.c
    ∙ ap (λ (l : List ℕ). length l) (unknown-empty (context_at c.self.inside.nodes.pairs) (sides_at c.self.inside.nodes.pairs) (map.get c.self.inside.ends.lanes) (lane_in xs) c.self.invariant.family
    c.args.c.0 (sym c.get.ensures ∙ c.in-None.is)))

pub returns-in-Some : goal.returns-in-Some
returns-in-Some c =
    (c.self.invariant.family.told c.args.c.0 c.in-Some.ends (sym c.get.ensures ∙ c.in-Some.is)).count
    ∙ sym (soon-length (coming_of c.self.inside.changes.items) c.args.c) ∙ ap (λ (v : Waiting). length (soon_in v.coming c.args.c)) c.self.view_is
