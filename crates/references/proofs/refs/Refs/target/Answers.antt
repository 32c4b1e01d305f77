use Rattle.std.proofs.Common.{◌∙◌, ap, sym}
use Rattle.std.specs.Option.{option_map}
use Rattle.references.specs.Pairs.{Pairs, target_of}
use Rattle.references.specs.Linked.{target_in}
use Rattle.references.proofs.Listing.{target-in}
use Rattle.references.proofs.refs.Refs.target.Goals as goal

pub returns-in-None : goal.returns-in-None
returns-in-None c = ap (option_map target_in) c.in-None.ensures ∙ sym (target-in c.self.inside.nodes.pairs c.args.reference.0) ∙ ap (λ (p : Pairs). target_of p.pairs c.args.reference) c.self.view_is

pub returns-in-Some : goal.returns-in-Some
returns-in-Some c = ap (option_map target_in) c.in-Some.ensures ∙ sym (target-in c.self.inside.nodes.pairs c.args.reference.0) ∙ ap (λ (p : Pairs). target_of p.pairs c.args.reference) c.self.view_is
