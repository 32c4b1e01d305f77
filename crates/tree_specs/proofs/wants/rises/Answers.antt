use Rattle.std.proofs.Common.{rules}
use Rattle.std.proofs.lemmas.List.Sorted.{answers_always}
use Rattle.tree_specs.specs.Words.Wants.{comes_before}
use Rattle.tree_specs.proofs.Words.Rising.{rises-answer}
use Rattle.tree_specs.proofs.wants.rises.Goals as goal

pub returns : goal.returns
returns c = rises-answer c.args.list.now c.is_sorted_by.result (c.is_sorted_by.ensures.cases comes_before (answers_always _ _ _ (λ f a r f' called. search rules)))
