use Rattle.std.proofs.Common.{◌-◌, ◌∙◌, Some, ap, sym}
use Rattle.std.specs.Option.{option_map}
use Rattle.pool_arena.proofs.Steps.{put-at}
use Rattle.references.specs.Linked.{shortened}
use Rattle.references.proofs.head.shorten.Goals as goal

pub returns-in-Some-clause-heads : goal.returns-in-Some-clause-heads
returns-in-Some-clause-heads c =
    put-at c.args.heads.now c.args.target _ _
    (ap (option_map (shortened c.args.newest)) (sym c.in-Some.ensures.value) ∙ ap (λ n. Some (record { newest = n; count = c.in-Some.head.now.count - 1 })) (sym c.unwrap_or.ensures))
