use Rattle.std.proofs.Common.{◌≤◌, sym, subst, arith}
use Rattle.object_pool.specs.Objects.{Objects}
use Rattle.object_pool.specs.Requests.{count_unreceived}
use Rattle.host_core.proofs.Unreceived.{cleaning_many}
use Rattle.host_core.proofs.working.clean.Goals as goal

pub returns-in-Some-clause-requests : goal.returns-in-Some-clause-requests
returns-in-Some-clause-requests c =
    let t = c.to_clean in
    let many = cleaning_many c.args.x t.result c.args.objects.now.pool c.requires.order in
    subst (λ (o : Objects). count_unreceived o.pool.requests ≤ count_unreceived c.args.objects.now.pool.requests) (sym t.ensures.pool) (omega (arith, many))
