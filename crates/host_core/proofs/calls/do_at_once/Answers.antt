use Rattle.std.proofs.Common.{subst, ◌∙◌}
use Rattle.tree_specs.specs.declared.call.Call.{Call}
use Rattle.tree_specs.specs.Calls.Passed.{AllPassed}
use Rattle.tree_specs.specs.Calls.Refusals.{tests}
use Rattle.host_core.proofs.calls.do_at_once.Goals as goal

pub add_entry-made-requires-clause-queue : goal.add_entry-made-requires-clause-queue
add_entry-made-requires-clause-queue c = c.requires.queues c.in-Enqueue.queue ∙ (subst (λ (call : Call). AllPassed c.args.pool.now.pool (tests call)) c.in-Enqueue.is c.requires.allowed).1.0
