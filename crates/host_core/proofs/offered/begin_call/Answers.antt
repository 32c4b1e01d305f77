use Rattle.std.proofs.Common.{◌≡◌, ◌∙◌, ap}
use Rattle.host_core.specs.declared.motion.Motion.TheVariants.{Replies}
use Rattle.host_core.proofs.Offering.{asked-of}
use Rattle.host_core.proofs.Given.{call_refs, call_queues, moved_for, replied_along, replied_ready, replied_speaks}
use Rattle.host_core.proofs.offered.begin_call.Goals as goal

pub act-requires-clause-reference : goal.act-requires-clause-reference
act-requires-clause-reference c = let q = asked-of _ c.requires.asked in call_refs q.0 c.args.call c.args.parts.now (c.requires.whole q.0 q.1)

pub act-requires-clause-queues : goal.act-requires-clause-queues
act-requires-clause-queues c = let q = asked-of _ c.requires.asked in call_queues q.0 c.args.call c.args.parts.now (c.requires.whole q.0 q.1)

-- ---- a reply

pub returns-in-Replies-clause-replied : goal.returns-in-Replies-clause-replied
returns-in-Replies-clause-replied c = λ q reply next e some tells.
    let m = c.act in
    let moved = moved_for _ _ q c.args.call m.result c.args.parts.now.objects.pool _ c.asked.ensures e m.ensures.moved in
    let e' : c.in-Replies.reply ≡ reply = cc in
    let is = c.in-Replies.is ∙ ap Replies e' in
    let whole = c.requires.whole q e in
    record {
      along = replied_along q c.args.call c.args.parts.now whole m.result m.new.pool moved m.ensures.works reply is next tells c.requires.fit;
      ready = replied_ready q c.args.call c.args.parts.now whole m.result m.new.pool moved m.ensures.works reply is next tells c.requires.fit;
      speaks = replied_speaks q c.args.call c.args.parts.now whole m.result m.new.pool moved m.ensures.works reply is next tells c.requires.fit;
    }

-- ---- what begins

pub begin_on-requires-clause-begins : goal.begin_on-requires-clause-begins
begin_on-requires-clause-begins c = λ q e.
    let m = c.act.ensures in
    let moved = moved_for _ _ q c.args.call c.act.result c.args.parts.now.objects.pool _ c.asked.ensures e m.moved in
    (c.args.call, c.args.parts.now.objects, record { whole = c.requires.whole q e; room = c.requires.room; fit = c.requires.fit; moved = moved; works = m.works; goes = m.goes })

pub returns-in_default-clause-begun : goal.returns-in_default-clause-begun
returns-in_default-clause-begun c = λ q e none.
    let m = c.act.ensures in
    let moved = moved_for _ _ q c.args.call c.act.result c.args.parts.now.objects.pool _ c.asked.ensures e m.moved in
    record {
      along = c.begin_on.ensures.along q c.args.call c.args.parts.now.objects e (record { whole = c.requires.whole q e; room = c.requires.room; fit = c.requires.fit; moved = moved; works = m.works; goes = m.goes });
      ready = c.begin_on.ensures.ready;
      speaks = c.begin_on.ensures.settled;
    }
