use Rattle.host_core.proofs.StepsSilently.{along-then}
use Rattle.host_core.specs.declared.answer.Answer.TheVariants.{Heard}
use Rattle.host_core.specs.Going.{LeadsToEnd}
use Rattle.host_core.specs.Hosts.{given_view}
use Rattle.host_core.proofs.Given.{given_fits, given_ready, heard_short, heard_leads}
use Rattle.host_core.proofs.offered.answered.Goals as goal

pub turn_given-requires : goal.turn_given-requires
turn_given-requires c = given_fits c.args.now c.in-Turning.turn c.args.input c.args.parts.now c.in-Turning.is c.requires.taken.fits c.requires.taken.ready

pub returns-in-Turning-clause-ready : goal.returns-in-Turning-clause-ready
returns-in-Turning-clause-ready c = given_ready c.args.now c.in-Turning.turn c.args.input c.args.parts.now c.turn_given.result c.new.result c.in-Turning.is c.requires.taken c.turn_given.ensures c.new.ensures

pub heard-reply-requires-clause-short : goal.heard-reply-requires-clause-short
heard-reply-requires-clause-short c = heard_short c.args.now c.in-Reaching._question c.args.input c.args.parts.now c.in-Reaching.is c.requires.taken.fits c.requires.taken.ready c.requires.taken.no_bytes

leads : (c : goal.After-end-arg-1) → LeadsToEnd (given_view c.args.now c.args.input c.args.parts.now) (Heard c.heard-reply.result) (record { waiting = c.args.parts.now.waiting; objects = c.heard-reply.new.objects })
leads c =
    let taken = c.requires.taken in
    let reply = c.heard-reply in
    heard_leads c.args.now c.in-Reaching._question c.args.input c.args.parts.now c.in-Reaching.is taken.fits taken.ready taken.no_bytes reply.result reply.new.objects reply.ensures.reply reply.ensures.pool taken.whole taken.fit taken.room

pub end-requires : goal.end-requires
end-requires c = (leads c).may

pub returns-in-Reaching-clause-along : goal.returns-in-Reaching-clause-along
returns-in-Reaching-clause-along c =
    let taken = c.requires.taken in
    let reply = c.heard-reply in
    along-then _ _ _
    (heard_leads c.args.now c.in-Reaching._question c.args.input c.args.parts.now c.in-Reaching.is taken.fits taken.ready taken.no_bytes reply.result reply.new.objects reply.ensures.reply reply.ensures.pool taken.whole taken.fit taken.room).onward.along
    c.end.ensures.along
