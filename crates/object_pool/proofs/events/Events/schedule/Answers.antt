use Rattle.std.proofs.Common.{refl}
use Rattle.pool_arena.proofs.NumberMaps.{put_listed}
use Rattle.object_pool.proofs.events.Events.schedule.Goals as goal

pub returns-clause-upcoming : goal.returns-clause-upcoming
returns-clause-upcoming c = rw (← c.self.view_is, c.push.ensures.coming, c.put.ensures, put_listed c.self.inside.handlers.pairs c.args.x.0 c.args.handler) refl
