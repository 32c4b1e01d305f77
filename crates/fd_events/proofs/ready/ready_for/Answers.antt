use Rattle.std.proofs.Common.{◌≢◌, ◌≤◌, false, get_or, ltb, ap, arith, rules}
use Rattle.std.proofs.lemmas.Bool.{ltb-true, ltb-false}
use Rattle.std.proofs.lemmas.List.Sorted.{IsPartitionPoint-from_clause, IsPartitionedBy-ltb}
use Rattle.std.specs.List.Sorted.{IsPartitionPoint}
use Rattle.std.specs.Prelude.{◌≡◌, true}
use Rattle.std.specs.Option.{is_some}
use Rattle.linked_lanes.proofs.Lanes.{not_both}
use Rattle.tree_specs.specs.declared.wants.Want.{Want}
use Rattle.fd_events.proofs.Searching.{AreBefore, not-falling, found-at, none-at}
use Rattle.fd_events.proofs.ready.ready_for.Goals as goal
use Rattle.fd_events.proofs.ready.ready_for.Goals.{After-get}

point : (c : After-get) → IsPartitionPoint (λ (w : Want). ltb w.fd c.args.fd ≡ true) (λ w. ltb w.fd c.args.fd ≡ false) c.args.list.now c.partition_point-at.result
point c =
    IsPartitionPoint-from_clause (λ w. ltb w.fd c.args.fd) _ _ c.partition_point-at.ensures.partitioned
    (IsPartitionedBy-ltb (λ w. w.fd) _ c.args.fd (not-falling c.args.list.now c.requires)) (λ a r q k. search rules)

before : (c : After-get) → AreBefore c.args.list.now c.partition_point-at.result c.args.fd
before c = λ k d h l. ltb-true _ _ ((point c).0 k d (omega arith) h)

pub returns-in-Some : goal.returns-in-Some
returns-in-Some c =
    found-at c.args.list.now c.partition_point-at.result c.args.fd c.in-Some.want.now (before (goal.at.returns-in-Some c).After-get)
    c.in-Some.ensures.lookup.3.0 c.in-Some.ensures.lookup.3.1 c.if-want-fd.true

pub returns-in_default : goal.returns-in_default
returns-in_default c =
    none-at c.args.list.now c.partition_point-at.result c.args.fd c.requires (before (goal.at.returns-in_default c).After-get)
    (λ d l.
    let behind : c.args.fd ≤ (get_or c.args.list.now c.partition_point-at.result d).fd = ltb-false _ _ ((point (goal.at.returns-in_default c).After-get).1 c.partition_point-at.result d (omega arith) l) in
    let is = ap (λ (w : Want). w.fd) (c.in-Some.ensures.lookup.3.1 d) in
    let other : c.in-Some.want.now.fd ≢ c.args.fd = c.if-want-fd.false in
    omega (arith, behind, is, other))

pub returns-in_default-2 : goal.returns-in_default-2
returns-in_default-2 c =
    none-at c.args.list.now c.partition_point-at.result c.args.fd c.requires (before (goal.at.returns-in_default-2 c).After-get)
    (λ d l. not_both (c.get.ensures.lookup.2 l) (ap is_some c.in_default.is))
