use Rattle.std.proofs.Common.{Option, subst}
use Rattle.tree_specs.specs.declared.reply.Reply.{Reply}
use Rattle.host_core.specs.Promises.{TakesCall}
use Rattle.host_core.proofs.Straying.{no-some}
use Rattle.schedule_replay.proofs.HostLaws.{calls-on, calls-replied}
use Rattle.schedule_replay.proofs.RunLaws.{on-ok}
use Rattle.schedule_replay.proofs.over_host.do_call.Goals as goal

pub returns-in_default-clause-ok : goal.returns-in_default-clause-ok
returns-in_default-clause-ok c =
    calls-on c.args.host.now c.call.new.self c.args.call c.args.text.now.items c.requires.waits c.requires.asked
    (subst (λ (z : Option Reply). TakesCall c.args.host.now c.args.call z c.call.new.self) (no-some c.in_ok-reply.field-0 c.in_default.not-Some) c.in_ok-reply.ensures.ok)

pub returns-clause-ok : goal.returns-clause-ok
returns-clause-ok c =
    on-ok c.append_reply.result
    (calls-replied c.args.host.now c.call.new.self c.args.call c.in-Some.reply c.args.text.now.items c.append_reply.new.text.items c.requires.waits c.requires.asked
    (subst (λ (z : Option Reply). TakesCall c.args.host.now c.args.call z c.call.new.self) c.in-Some.is c.in_ok-reply.ensures.ok)) c.append_reply.ensures.text
