use Rattle.std.proofs.Common.{◌≡◌, ℕ, Option, Some, None, is_some, option_copied, refl, ◌∙◌, ap}
use Rattle.std.specs.Borrow.{Bor}
use Rattle.std.specs.FinMap as map
use Rattle.tree_specs.specs.Events.Descriptors.{is_open_in}
use Rattle.object_pool.specs.Upcoming.{Agenda}
use Rattle.pool_arena.proofs.NumberMaps.{found_listed}
use Rattle.object_pool.proofs.events.Events.is_open.Goals as goal

lent : {V : Type 0} (o : Option (Bor V)) → is_some o ≡ is_some (option_copied o)
lent None = refl
lent (Some v) = refl

pub returns : goal.returns
returns c =
    let pairs = c.self.inside.descriptors.pairs in
    c.is_some.ensures ∙ lent c.get.result ∙ ap is_some (c.get.ensures ∙ ap (λ (n : ℕ). map.get pairs n) c.from.ensures ∙ found_listed pairs c.args.fd) ∙ ap (λ (a : Agenda). is_open_in a.upcoming.descriptors c.args.fd) c.self.view_is
