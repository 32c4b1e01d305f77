use Rattle.std.proofs.Common.{subst}
use Rattle.host_core.specs.declared.active.Active.{Active}
use Rattle.host_core.specs.Hosts.{IsBetweenSteps}
use Rattle.host_core.proofs.Stepping.{turn_may, turn_leads, work_may, work_leads}
use Rattle.host_core.proofs.works.quiet_move.Goals as goal

pub turn_step-requires-clause-may : goal.turn_step-requires-clause-may
turn_step-requires-clause-may c = turn_may c.args.active.now c.in-Turning.turn c.args.parts.now c.in-Turning.is c.requires.ready c.requires.quiet

pub returns-in-Turning : goal.returns-in-Turning
returns-in-Turning c =
    let s = c.turn_step in
    turn_leads c.args.active.now c.in-Turning.turn c.args.parts.now c.in-Turning.is c.requires.ready c.requires.quiet s.result s.new.objects s.ensures.step s.ensures.goes s.ensures.ends s.ensures.rest s.ensures.requests

pub work_step-requires-clause-may : goal.work_step-requires-clause-may
work_step-requires-clause-may c = work_may c.args.active.now c.in-Requesting.work c.args.parts.now c.in-Requesting.is c.requires.ready c.requires.quiet

pub work_step-requires-clause-ready : goal.work_step-requires-clause-ready
work_step-requires-clause-ready c = (subst (λ (z : Active). IsBetweenSteps z c.args.parts.now) c.in-Requesting.is c.requires.ready).ready

pub returns-in-Requesting : goal.returns-in-Requesting
returns-in-Requesting c =
    let s = c.work_step in
    work_leads c.args.active.now c.in-Requesting.work c.args.parts.now c.in-Requesting.is c.requires.ready c.requires.quiet s.result s.new.objects s.ensures.step s.ensures.goes s.ensures.ends s.ensures.rest s.ensures.requests
