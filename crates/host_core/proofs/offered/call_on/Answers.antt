use Rattle.std.proofs.Common.{◌≡◌, Some, is_some, ◌∙◌, ap}
use Rattle.tree_specs.specs.declared.question.Ask.{Ask}
use Rattle.tree_specs.specs.declared.question.Input.TheVariants as input
use Rattle.host_core.specs.Hosts.{called_view, caller_asked, ComesTo}
use Rattle.host_core.proofs.Offering.{asked-of}
use Rattle.host_core.proofs.offered.call_on.Goals as goal

-- ---- a reply, which the caller is told next

pub reply_on-requires : goal.reply_on-requires
reply_on-requires c = let q = asked-of _ c.requires.asked in ap is_some (ap caller_asked (c.begin_call.ensures.asked (ap is_some c.in-Some.is)) ∙ q.1)

replied : (c : goal.After-reply_on) (q : Ask) → caller_asked c.args.now.now ≡ Some q → ComesTo (called_view q (input.Call c.args.call) c.args.parts.now) c.reply_on.new.now c.begin_call.new.parts
replied c q e = c.begin_call.ensures.replied q c.in-Some.reply c.reply_on.new.now e c.in-Some.is (c.reply_on.ensures q (ap caller_asked (c.begin_call.ensures.asked (ap is_some c.in-Some.is)) ∙ e))

pub returns-in-Some-clause-along : goal.returns-in-Some-clause-along
returns-in-Some-clause-along c = λ q e. (replied c q e).along

pub returns-in-Some-clause-ready : goal.returns-in-Some-clause-ready
returns-in-Some-clause-ready c = let q = asked-of _ c.requires.asked in (replied c q.0 q.1).ready

pub returns-in-Some-clause-settled : goal.returns-in-Some-clause-settled
returns-in-Some-clause-settled c = let q = asked-of _ c.requires.asked in (replied c q.0 q.1).speaks
