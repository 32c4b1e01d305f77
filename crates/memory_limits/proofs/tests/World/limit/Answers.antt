use Rattle.std.proofs.Common.{rules, ◌≡◌, List, true, sym, ap, subst}
use Rattle.tree_specs.specs.Tree.Pool.{Pool, is_row}
use Rattle.memory_limits.specs.declared.limited.Limited.{Limited}
use Rattle.memory_limits.specs.Limits.{AllSums, AreLimitsOf}
use Rattle.memory_limits.proofs.Relimited.{relimited-sums, relimited-are}
use Rattle.memory_limits.proofs.tests.World.limit.Goals as goal

pub set_limit-requires-2-clause-sums : goal.set_limit-requires-2-clause-sums
set_limit-requires-2-clause-sums g c =
    let is : is_row c.self.inside.tree.rows c.args.x ≡ true = search rules in
    subst (λ (p : Pool). AllSums c.reserve.new.self.limited p.rows) (sym c.set_limit.ensures.rows)
    (relimited-sums c.self.inside.tree.rows c.args.x c.args.max is c.reserve.new.self.limited (subst (λ (ls : List Limited). AllSums ls c.self.inside.tree.rows) (sym c.reserve.ensures.limits) c.self.invariant.sums))

-- no memory was there, and nothing has changed
pub invariant_of-self : goal.invariant_of-self
invariant_of-self g c = subst (λ (ls : List Limited). AreLimitsOf ls c.self.inside.tree.rows) (sym c.reserve.ensures.limits) c.self.invariant

pub invariant_of-self-2 : goal.invariant_of-self-2
invariant_of-self-2 g c =
    let is : is_row c.self.inside.tree.rows c.args.x ≡ true = search rules in
    let rows = ap (λ (p : Pool). p.rows) c.set_limit.ensures.rows in
    subst (AreLimitsOf c.set_limit-2.new.self.limited) (sym rows)
    (relimited-are c.self.inside.tree.rows c.args.x c.args.max is c.reserve.new.self.limited c.set_limit-2.new.self.limited c.set_limit-2.ensures.limits c.set_limit-2.ensures.bound
    (subst (AllSums c.set_limit-2.new.self.limited) rows c.set_limit-2.ensures.sums) (subst (λ (ls : List Limited). AreLimitsOf ls c.self.inside.tree.rows) (sym c.reserve.ensures.limits) c.self.invariant))
