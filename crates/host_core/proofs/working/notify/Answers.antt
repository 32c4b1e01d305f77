use Rattle.std.proofs.Common.{◌≡◌, ◌≤◌, sym, ◌∙◌, subst, arith}
use Rattle.object_pool.specs.Objects.{Objects}
use Rattle.object_pool.specs.Requests.{count_unreceived}
use Rattle.host_core.proofs.Notifying.{notified_over, notifying-rest}
use Rattle.host_core.proofs.Unreceived.{notifying_many}
use Rattle.host_core.proofs.working.notify.Goals as goal

pub returns-in-Post : goal.returns-in-Post
returns-in-Post c =
    let t = c.to_notify in
    let many = notifying_many c.args.x t.result c.args.objects.now c.requires.order in
    record {
      step = c.over.ensures.step t.new.self.pool ∙ notified_over c.args.x c.args.errand t.result c.args.objects.now t.new.self t.ensures.result c.in-Post.is t.ensures.pool;
      goes = c.over.ensures.goes t.new.self;
      ongoing = c.over.ensures.ongoing;
      rest = subst (λ (o : Objects). o ≡ record c.args.objects.now { pool = o.pool; ready = o.ready }) (sym t.ensures.pool) (notifying-rest c.args.x t.result c.args.objects.now);
      requests = subst (λ (o : Objects). count_unreceived o.pool.requests ≤ count_unreceived c.args.objects.now.pool.requests) (sym t.ensures.pool) (omega (arith, many));
    }
