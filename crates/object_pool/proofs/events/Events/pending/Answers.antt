use Rattle.std.proofs.Common.{◌+◌, ◌≤◌, ◌<◌, ◌^◌, subst, arith}
use Rattle.object_pool.specs.Upcoming.{Agenda, pending, pending_most}
use Rattle.object_pool.proofs.Fewer.{pending-most}
use Rattle.object_pool.proofs.events.Events.pending.Goals as goal

pub overflow_add-result : goal.overflow_add-result
overflow_add-result c =
    let few : pending_most c.args.self.now.upcoming < 2 ^ 64 = c.requires in
    let here = pending-most c.args.c c.args.self.now.upcoming in
    let is : c.len.result + c.len-2.result ≤ pending c.args.c c.args.self.now.upcoming = subst (λ (a : Agenda). c.len.result + c.len-2.result ≤ pending c.args.c a.upcoming) c.self.view_is (let s = c.len.ensures in let t = c.len-2.ensures in omega (arith, s, t)) in
    omega (arith, few, here, is)

pub overflow_add-result-2 : goal.overflow_add-result-2
overflow_add-result-2 c =
    let few : pending_most c.args.self.now.upcoming < 2 ^ 64 = c.requires in
    let here = pending-most c.args.c c.args.self.now.upcoming in
    let is : c.len.result + c.len-2.result + c.len-3.result ≤ pending c.args.c c.args.self.now.upcoming =
    subst (λ (a : Agenda). c.len.result + c.len-2.result + c.len-3.result ≤ pending c.args.c a.upcoming) c.self.view_is (let s = c.len.ensures in let t = c.len-2.ensures in let r = c.len-3.ensures in omega (arith, s, t, r)) in
    omega (arith, few, here, is)
