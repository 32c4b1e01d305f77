use Rattle.host_core.proofs.Given.{return_leads}
use Rattle.host_core.proofs.StepsSilently.{along-then}
use Rattle.host_core.proofs.offered.return_on.Goals as goal

pub end-next-requires : goal.end-next-requires
end-next-requires c = (return_leads c.args.value c.args.parts.now c.requires.whole c.requires.fit c.requires.room).may

pub returns-clause-along : goal.returns-clause-along
returns-clause-along c =
    along-then _ _ _ (return_leads c.args.value c.args.parts.now c.requires.whole c.requires.fit c.requires.room).onward.along (along-then _ _ _ c.end-next.ensures.along c.settle_on.ensures.along)
