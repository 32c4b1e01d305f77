use Rattle.std.proofs.Common.{sym, ◌∙◌}
use Rattle.host_core.proofs.FreeStepping.{news_onward, news_ready, is-news}
use Rattle.host_core.proofs.works.step_quietly.Goals as goal

pub leave_free-requires-clause-came : goal.leave_free-requires-clause-came
leave_free-requires-clause-came c =
    let s = c.step-step.ensures in
    (c.args.parts.now.objects, record { ready = c.requires.ready; quiet = c.requires.quiet; steps = s.steps; goes_on = s.goes_on; requests = s.requests })

pub leave_free-requires-clause-leaves : goal.leave_free-requires-clause-leaves
leave_free-requires-clause-leaves c = sym c.stays_at_work.ensures ∙ c.if-stays_at_work.false

pub returns-then-stays_at_work-clause-onward : goal.returns-then-stays_at_work-clause-onward
returns-then-stays_at_work-clause-onward c =
    let s = c.step-step.ensures in
    rw c.requires.freeing (news_onward c.args.parts.now c.step-step.new.self c.requires.ready c.requires.quiet s.requests c.step-step.result.step s.steps (is-news _ (sym c.stays_at_work.ensures ∙ c.if-stays_at_work.true)))

pub returns-then-stays_at_work-clause-ready : goal.returns-then-stays_at_work-clause-ready
returns-then-stays_at_work-clause-ready c =
    let s = c.step-step.ensures in
    rw c.requires.freeing (news_ready c.args.parts.now c.step-step.new.self c.requires.ready c.requires.quiet s.requests c.step-step.result.step s.steps (is-news _ (sym c.stays_at_work.ensures ∙ c.if-stays_at_work.true)) s.goes_on)
