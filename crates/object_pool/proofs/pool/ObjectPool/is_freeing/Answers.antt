use Rattle.std.proofs.Common.{◌∙◌, ap, sym}
use Rattle.std.specs.Prelude.{is_some, slice_get}
use Rattle.object_pool.specs.Objects.{Objects}
use Rattle.object_pool.proofs.Opening.{innermost-is}
use Rattle.object_pool.proofs.pool.ObjectPool.is_freeing.Goals as goal

pub returns : goal.returns
returns c = c.is_open.ensures ∙ sym (ap is_some (innermost-is c.self.inside.engine c.self.inside.tree c.self.invariant.kept)) ∙ ap (λ (o : Objects). is_some (slice_get o.works 0)) c.self.view_is
