use Rattle.tree_specs.proofs.Events.ContextLaws.{soon-scheduled-here, soon-scheduled-other, soon-gone, soon-stays, times-disarmed, times-gone, ring-unwatched, ring-gone}
use Rattle.tree_specs.proofs.laws.each_context_has_its_lists.Goals as goal

pub returns : goal.returns
returns c = record {
  soon = λ xs x d. soon-scheduled-here xs x d;
  elsewhere = λ xs x d e ne. soon-scheduled-other xs x d e ne;
  soon_gone = λ xs d. soon-gone xs d;
  soon_stays = λ xs d e ne. soon-stays xs d e ne;
  times = λ ds x d. times-disarmed ds x d;
  times_gone = λ ds d. times-gone ds d;
  ring = λ ws x d. ring-unwatched ws x d;
  ring_gone = λ ws d. ring-gone ws d;
}
