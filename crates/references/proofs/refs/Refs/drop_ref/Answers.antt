use Rattle.std.proofs.Common.{◌≡◌, None, sym, ap, subst, ◌∙◌}
use Rattle.std.specs.FinMap as map
use Rattle.std.specs.Option.{option_map}
use Rattle.pool_arena.specs.Arena.{get}
use Rattle.pool_arena.proofs.Keeps.{get-with_entry, removed_none}
use Rattle.references.specs.Pairs.{Pairs, target_of, without}
use Rattle.references.specs.Linked.{pairs_in, target_in, IsLinked}
use Rattle.references.proofs.Finding.{without-pairs}
use Rattle.references.proofs.Listing.{target-in}
use Rattle.references.proofs.Linking.{Keeps, linked-keeps, keeps-linked, pairs-kept, some-there, none-without, are-pairs, drop-keeps}
use Rattle.references.proofs.refs.Refs.drop_ref.Goals as goal

same : (c : goal.After-from_residual) → c.take.new.self.pairs ≡ c.self.inside.nodes.pairs
same c = c.take.ensures.pairs ∙ removed_none c.self.inside.nodes.pairs c.args.reference.0 (sym c.in_err-target.ensures.value)

pub invariant_of-self : goal.invariant_of-self
invariant_of-self c = subst (λ m. IsLinked m c.self.inside.heads.pairs) (sym (same c)) c.self.invariant

pub returns-in_err-target-clause-target : goal.returns-in_err-target-clause-target
returns-in_err-target-clause-target c =
    c.from_residual.ensures ∙ ap (option_map target_in) c.in_err-target.ensures.value ∙ sym (target-in c.self.inside.nodes.pairs c.args.reference.0)
    ∙ ap (λ (p : Pairs). target_of p.pairs c.args.reference) c.self.view_is

pub returns-in_err-target-clause-pairs : goal.returns-in_err-target-clause-pairs
returns-in_err-target-clause-pairs c =
    ap pairs_in (same c) ∙ sym (none-without _ _ _ (linked-keeps _ _ c.self.invariant) c.args.reference.0 (sym c.in_err-target.ensures.value))
    ∙ ap (λ (p : Pairs). without p.pairs c.args.reference) c.self.view_is

pub leave-requires : goal.leave-requires
leave-requires c = some-there _ _ _ (linked-keeps _ _ c.self.invariant) c.in_ok-target.field-0.target

dropped : (c : goal.After-set_link-2) → Keeps (map.get c.set_link-2.new.nodes.pairs) (map.get c.leave.new.heads.pairs) (without (pairs_in c.self.inside.nodes.pairs) c.args.reference)
dropped c =
    drop-keeps _ _ _ _ _ (linked-keeps _ _ c.self.invariant) c.args.reference.0 c.in_ok-target.field-0 (sym c.in_ok-target.ensures.value) (get c.take.new.self) (get c.set_link.new.nodes)
    (λ q. ap (λ m. map.get m q) c.take.ensures.pairs ∙ get-with_entry _ _ None q) c.set_link.ensures.nodes c.set_link-2.ensures.nodes c.leave.ensures.heads

pub invariant_of-self-2 : goal.invariant_of-self-2
invariant_of-self-2 c = keeps-linked _ _ _ (dropped c) (without-pairs _ c.args.reference (are-pairs _ _ c.self.invariant)).few

pub returns-clause-target : goal.returns-clause-target
returns-clause-target c =
    ap (option_map target_in) c.in_ok-target.ensures.value ∙ sym (target-in c.self.inside.nodes.pairs c.args.reference.0)
    ∙ ap (λ (p : Pairs). target_of p.pairs c.args.reference) c.self.view_is

pub returns-clause-pairs : goal.returns-clause-pairs
returns-clause-pairs c = pairs-kept _ c.leave.new.heads.pairs _ (dropped c) ∙ ap (λ (p : Pairs). without p.pairs c.args.reference) c.self.view_is
