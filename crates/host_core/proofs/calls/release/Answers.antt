use Rattle.std.proofs.Common.{sym, ◌∙◌}
use Rattle.tree_specs.specs.declared.call.Call.TheVariants.{Free as FreeOf}
use Rattle.tree_specs.specs.Calls.Plans.{plan}
use Rattle.tree_specs.specs.Calls.Refusals.{refusals}
use Rattle.host_core.proofs.Allowed.{refused_release}
use Rattle.host_core.proofs.calls.release.Goals as goal

pub returns-in-Err : goal.returns-in-Err
returns-in-Err c = refused_release (refusals c.args.pool.now.pool (FreeOf c.args.child)) (plan c.args.pool.now.pool (FreeOf c.args.child)) c.in-Err.field-0 (sym c.check_free.ensures ∙ c.in-Err.is)
