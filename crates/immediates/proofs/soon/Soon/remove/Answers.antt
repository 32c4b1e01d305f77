use Rattle.std.proofs.Common.{◌≡◌, is_some, false, sym, ap, subst, ◌∙◌}
use Rattle.std.specs.FinMap as map
use Rattle.pool_arena.proofs.Keeps.{removed_none}
use Rattle.linked_lanes.specs.Family.{IsWhole}
use Rattle.immediates.specs.declared.change.Change.TheVariants.{Leaves}
use Rattle.immediates.specs.Changes.{coming_of, contexts_of}
use Rattle.tree_specs.specs.Events.Pending.{is_scheduled}
use Rattle.immediates.specs.Waiting.{Waiting}
use Rattle.immediates.specs.Linked.{IsKept}
use Rattle.immediates.proofs.Once.{nobody-gone}
use Rattle.immediates.proofs.Keeping.{there, whole-left, keeps-left, keeps-noted}
use Rattle.immediates.proofs.soon.Soon.remove.Goals as goal

-- ---- one that doesn't wait

same : (c : goal.In_default) → c.take.new.self.pairs ≡ c.self.inside.nodes.pairs
same c = c.take.ensures.pairs ∙ removed_none c.self.inside.nodes.pairs c.args.x.0 (sym c.take.ensures.value ∙ c.in_default.is)

absent : (c : goal.In_default) → is_scheduled c.args.self.now.coming c.args.x ≡ false
absent c =
    ap (λ (v : Waiting). is_scheduled v.coming c.args.x) (sym c.self.view_is)
    ∙ sym (there _ _ _ _ c.self.invariant c.args.x) ∙ ap is_some (sym c.take.ensures.value ∙ c.in_default.is)

pub invariant_of-self : goal.invariant_of-self
invariant_of-self c =
    subst (λ m. IsKept m c.self.inside.ends.lanes (coming_of c.self.inside.changes.items) (contexts_of c.self.inside.changes.items)) (sym (same c)) c.self.invariant

pub returns-in_default-clause-result : goal.returns-in_default-clause-result
returns-in_default-clause-result c = sym (absent c)

pub returns-in_default-clause-coming : goal.returns-in_default-clause-coming
returns-in_default-clause-coming c = ap (λ (v : Waiting). v.coming) c.self.view_is ∙ sym (nobody-gone c.args.self.now.coming c.args.x (absent c))

-- ---- one that waits

pub set-requires-clause-whole : goal.set-requires-clause-whole
set-requires-clause-whole c =
    subst IsWhole (sym c.left.ensures)
    (whole-left c.self.inside.nodes.pairs c.self.inside.ends.lanes _ _ c.self.invariant c.args.x c.in-Some.node (sym c.take.ensures.value ∙ c.in-Some.is)
    c.unwrap-ends.result (sym c.get.ensures ∙ c.unwrap-ends.ensures))

pub invariant_of-self-2 : goal.invariant_of-self-2
invariant_of-self-2 c =
    keeps-noted _ _ c.self.inside.changes.items c.and-self-inside.result.items (Leaves c.args.x) c.and-self-inside.ensures
    (keeps-left c.self.inside.nodes.pairs c.self.inside.ends.lanes _ _ c.self.invariant c.args.x c.in-Some.node (sym c.take.ensures.value ∙ c.in-Some.is)
    c.unwrap-ends.result (sym c.get.ensures ∙ c.unwrap-ends.ensures)
    c.take.new.self.pairs c.set_link.new.nodes.pairs c.set_link-2.new.nodes.pairs c.set.new.self.lanes c.take.ensures.pairs
    c.set_link.ensures.sides c.set_link.ensures.contexts c.set_link.ensures.len
    c.set_link-2.ensures.sides c.set_link-2.ensures.contexts c.set_link-2.ensures.len
    (c.set.ensures.lanes ∙ ap (map.insert c.self.inside.ends.lanes c.in-Some.node.context) c.left.ensures))

pub returns-clause-result : goal.returns-clause-result
returns-clause-result c =
    sym (ap is_some (sym c.take.ensures.value ∙ c.in-Some.is)) ∙ there _ _ _ _ c.self.invariant c.args.x
    ∙ ap (λ (v : Waiting). is_scheduled v.coming c.args.x) c.self.view_is
