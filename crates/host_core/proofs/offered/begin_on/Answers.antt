use Rattle.std.proofs.Common.{sym, subst}
use Rattle.tree_specs.specs.declared.question.Ask.{Ask}
use Rattle.tree_specs.specs.declared.question.Input.TheVariants as input
use Rattle.host_core.specs.Going.{with_objects, BeginsWith}
use Rattle.host_core.specs.Hosts.{called_view, host_view, TellsSameStory}
use Rattle.host_core.proofs.Offering.{same-asked}
use Rattle.host_core.proofs.Given.{call_leads}
use Rattle.host_core.proofs.StepsSilently.{along-then}
use Rattle.host_core.proofs.offered.begin_on.Goals as goal

pub go_on-next-requires : goal.go_on-next-requires
go_on-next-requires c =
    let p = c.args.parts.now in
    let k = c.requires.begins c.take_ask-ask.result c.take_ask-ask.ensures in
    let s = c.call_step.ensures in
    (call_leads _ _ k.1 c.args.motion p _ k.2 (s.step p.objects.pool) s.busy s.places (s.ready p.objects k.2.goes) (s.answers _ p.objects)).may

pub returns-clause-along : goal.returns-clause-along
returns-clause-along c = λ q call o e begins.
    let p = c.args.parts.now in
    let s = c.call_step.ensures in
    let same = same-asked _ _ _ e c.take_ask-ask.ensures in
    let b = subst (λ (z : Ask). BeginsWith z call o c.args.motion p) same begins in
    let on = call_leads c.take_ask-ask.result call o c.args.motion p c.call_step.result b (s.step p.objects.pool) s.busy s.places (s.ready p.objects b.goes) (s.answers _ p.objects) in
    subst (λ (z : Ask). TellsSameStory (called_view z (input.Call call) (with_objects o p)) (host_view c.settle_on.new.now c.settle_on.new.parts)) (sym same)
    (along-then _ _ _ on.onward.along (along-then _ _ _ c.go_on-next.ensures.along c.settle_on.ensures.along))
