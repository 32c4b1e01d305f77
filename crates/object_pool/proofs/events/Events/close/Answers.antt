use Rattle.std.proofs.Common.{refl}
use Rattle.pool_arena.proofs.NumberMaps.{removed_listed}
use Rattle.object_pool.proofs.events.Events.close.Goals as goal

pub returns-clause-upcoming : goal.returns-clause-upcoming
returns-clause-upcoming c = rw (← c.self.view_is, c.take.ensures.pairs, c.from.ensures, removed_listed c.self.inside.descriptors.pairs c.args.fd) refl
