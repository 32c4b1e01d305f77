use Rattle.std.proofs.Common.{refl}
use Rattle.pool_arena.proofs.NumberMaps.{put_listed}
use Rattle.object_pool.proofs.events.Events.open.Goals as goal

pub returns-clause-upcoming : goal.returns-clause-upcoming
returns-clause-upcoming c = rw (← c.self.view_is, c.put.ensures, c.from.ensures, put_listed c.self.inside.descriptors.pairs c.args.fd tt) refl
