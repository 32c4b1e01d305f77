use Rattle.std.proofs.Common.{◌≡◌, None, ◌∙◌, ap, sym}
use Rattle.std.specs.Option.{option_map}
use Rattle.references.specs.Pairs.{Pairs, target_of, first_below, next_to}
use Rattle.references.specs.Linked.{pairs_in, target_in}
use Rattle.references.proofs.Listing.{target-in}
use Rattle.references.proofs.Linking.{linked-keeps, next-kept}
use Rattle.references.proofs.refs.Refs.next_ref.Goals as goal

pub returns-in-None : goal.returns-in-None
returns-in-None c =
    let none : target_of (pairs_in c.self.inside.nodes.pairs) c.args.reference ≡ None = target-in c.self.inside.nodes.pairs c.args.reference.0 ∙ ap (option_map target_in) (sym c.in-None.ensures) in
    sym (ap (first_below (pairs_in c.self.inside.nodes.pairs) c.args.reference) none) ∙ ap (λ (p : Pairs). next_to p.pairs c.args.reference) c.self.view_is

pub returns-in-Some : goal.returns-in-Some
returns-in-Some c =
    c.obj.ensures ∙ next-kept _ _ _ (linked-keeps _ _ c.self.invariant) c.args.reference.0 c.in-Some.node.now (sym c.in-Some.ensures)
    ∙ ap (λ (p : Pairs). next_to p.pairs c.args.reference) c.self.view_is
