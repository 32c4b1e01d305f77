use Rattle.std.proofs.Common.{Some, sym, ap}
use Rattle.pool_arena.specs.Arena.{get}
use Rattle.pool_arena.proofs.Steps.{put-at, put-to}
use Rattle.references.specs.Linked.{joined}
use Rattle.references.proofs.head.join.Goals as goal

pub returns-in-Some-clause-heads : goal.returns-in-Some-clause-heads
returns-in-Some-clause-heads c = put-at c.args.heads.now c.args.target _ _ (ap (λ o. Some (joined c.args.reference o)) (sym c.in-Some.ensures.value))

pub returns-in-None-clause-heads : goal.returns-in-None-clause-heads
returns-in-None-clause-heads c =
    put-to c.args.heads.now c.args.target c.add.new.self _ (Some (joined c.args.reference (get c.args.heads.now c.args.target))) c.add.ensures.pairs
    (ap (λ o. Some (joined c.args.reference o)) (sym c.in-None.ensures.value))
