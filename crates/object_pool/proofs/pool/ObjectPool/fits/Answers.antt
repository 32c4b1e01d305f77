use Rattle.std.proofs.Common.{ap, ◌∙◌}
use Rattle.tree_specs.specs.Calls.Refusals.{checked, fits}
use Rattle.object_pool.specs.Objects.{Objects}
use Rattle.object_pool.proofs.pool.ObjectPool.fits.Goals as goal

pub returns : goal.returns
unfolding fits
returns c = c.fits.ensures ∙ ap (λ (o : Objects). checked (fits o.pool c.args.owner c.args.wanted)) c.self.view_is
