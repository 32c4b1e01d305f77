use Rattle.std.proofs.Common.{◌∙◌, subst, arith}
use Rattle.tree_specs.specs.declared.call.Call.TheVariants.{Free as FreeOf}
use Rattle.tree_specs.specs.declared.frame.Errand.TheVariants.{Receive}
use Rattle.tree_specs.specs.Calls.Plans.{planned}
use Rattle.host_core.specs.Requests.{IsReleaseBy}
use Rattle.host_core.proofs.Allowed.{release_none, freeing_release}
use Rattle.host_core.proofs.Going.{more-places}
use Rattle.host_core.proofs.working.let_go.Goals as goal

pub begins-requires : goal.begins-requires
begins-requires c =
    let plan = planned c.args.objects.now.pool (FreeOf c.args.child) in
    freeing_release plan c.in-Some.motion (subst (IsReleaseBy plan) c.in-Some.is c.release.ensures)

pub returns-in-Some-clause-step : goal.returns-in-Some-clause-step
returns-in-Some-clause-step c =
    let plan = planned c.args.objects.now.pool (FreeOf c.args.child) in
    c.begins.ensures.step plan Receive c.args.objects.now.pool (subst (IsReleaseBy plan) c.in-Some.is c.release.ensures)

pub returns-in-None-clause-step : goal.returns-in-None-clause-step
returns-in-None-clause-step c =
    let plan = planned c.args.objects.now.pool (FreeOf c.args.child) in
    c.over.ensures.step c.args.objects.now.pool ∙ release_none plan Receive c.args.objects.now.pool (subst (IsReleaseBy plan) c.in-None.is c.release.ensures)

pub returns-in-None-clause-goes : goal.returns-in-None-clause-goes
returns-in-None-clause-goes c = more-places 1 3 c.over.result c.args.objects.now (omega arith) (c.over.ensures.goes c.args.objects.now)

pub returns-in-Some-clause-goes : goal.returns-in-Some-clause-goes
returns-in-Some-clause-goes c = c.begins.ensures.goes c.args.objects.now c.requires.ready
