use Rattle.std.proofs.Common.{◌∙◌, refl}
use Rattle.pool_arena.proofs.NumberMaps.{none_listed, put_listed}
use Rattle.object_pool.proofs.events.Events.new.Goals as goal

pub returns : goal.returns
returns c =
    rw (
      c.new.ensures.soon,
      c.new.ensures.times,
      c.new.ensures.ring,
      none_listed c.new-2.result.pairs c.new-2.ensures.empty,
      c.new-3.ensures,
      c.new-4.ensures,
      c.put.ensures,
      put_listed c.reserve.new.self.pairs 0 tt,
      none_listed c.reserve.new.self.pairs (c.reserve.ensures.pairs ∙ c.new-descriptors.ensures.empty),
    ) refl
