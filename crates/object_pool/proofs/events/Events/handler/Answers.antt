use Rattle.std.proofs.Common.{◌∙◌, ap}
use Rattle.tree_specs.specs.Events.Handlers.{handler_of}
use Rattle.object_pool.specs.Upcoming.{Agenda}
use Rattle.pool_arena.proofs.NumberMaps.{found_listed}
use Rattle.object_pool.proofs.events.Events.handler.Goals as goal

pub returns : goal.returns
returns c = c.copied.ensures ∙ c.get.ensures ∙ found_listed c.self.inside.handlers.pairs c.args.x.0 ∙ ap (λ (a : Agenda). handler_of a.upcoming.handlers c.args.x) c.self.view_is
