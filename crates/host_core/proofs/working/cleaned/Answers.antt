use Rattle.host_core.specs.Places.{errand_places}
use Rattle.host_core.proofs.Going.{more-places, errand-takes}
use Rattle.host_core.proofs.working.cleaned.Goals as goal

pub returns-in_default-clause-goes : goal.returns-in_default-clause-goes
returns-in_default-clause-goes c = more-places 1 (errand_places c.args.errand) c.over.result c.args.objects.now (errand-takes c.args.errand) (c.over.ensures.goes c.args.objects.now)
