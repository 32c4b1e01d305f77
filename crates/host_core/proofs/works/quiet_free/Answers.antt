use Rattle.host_core.proofs.StepsSilently.{onward-along}
use Rattle.host_core.proofs.FreeStepping.{over_leads}
use Rattle.host_core.proofs.works.quiet_free.Goals as goal

pub end-requires : goal.end-requires
end-requires c =
    let e = c.in-Some.ensures in
    (over_leads c.args.parts.now c.end_free.new.self c.in-Some.answer c.requires.ready c.requires.quiet e.steps e.goes_on e.requests).may

pub returns-in-Some-clause-onward : goal.returns-in-Some-clause-onward
returns-in-Some-clause-onward c =
    let e = c.in-Some.ensures in
    onward-along _ _ _ (over_leads c.args.parts.now c.end_free.new.self c.in-Some.answer c.requires.ready c.requires.quiet e.steps e.goes_on e.requests).onward c.end.ensures.along
