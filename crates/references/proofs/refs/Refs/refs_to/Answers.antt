use Rattle.std.proofs.Common.{◌∙◌, ap, subst}
use Rattle.std.specs.Option.{option_map}
use Rattle.references.specs.Pairs.{Pairs, ArePairs, count_to, first_to}
use Rattle.references.specs.Linked.{numbered, newest_of, count_of}
use Rattle.references.proofs.Lanes.{count-lane, first-lane}
use Rattle.references.proofs.Linking.{are-pairs}
use Rattle.references.proofs.refs.Refs.refs_to.Goals as goal

pub returns-clause-first : goal.returns-clause-first
returns-clause-first c =
    c.obj.ensures ∙ ap (option_map numbered) (c.newest.ensures ∙ ap (option_map newest_of) (c.copied-head.ensures ∙ c.get.ensures) ∙ (c.self.invariant.chain c.args.target.0).at_head)
    ∙ first-lane _ c.args.target.0 ∙ ap (λ (p : Pairs). first_to p.pairs c.args.target) c.self.view_is

pub returns-clause-count : goal.returns-clause-count
returns-clause-count c =
    c.count.ensures ∙ ap count_of (c.copied-head.ensures ∙ c.get.ensures) ∙ c.self.invariant.count c.args.target.0 ∙ count-lane _ c.args.target.0 ∙ ap (λ (p : Pairs). count_to p.pairs c.args.target) c.self.view_is

pub returns-clause-sound : goal.returns-clause-sound
returns-clause-sound c = subst (λ (p : Pairs). ArePairs p.pairs) c.self.view_is (are-pairs _ _ c.self.invariant)
