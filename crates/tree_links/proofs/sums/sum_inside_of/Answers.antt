use Rattle.std.proofs.Common.{rules, ◌∙◌}
use borrow.Author.Tests.{tests}
use Rattle.std.proofs.lemmas.Iterator.Consumers.{sum_by_from_yields_List, fits_by_from_yields_list}
use Rattle.tree_links.specs.Walk.{walk_from}
use Rattle.tree_links.specs.Weights.{weighed, weight_of}
use Rattle.tree_links.proofs.Weighing.{leaf-weight, weights, whole-weight, weight-fits, weighed-small}
use Rattle.tree_links.proofs.sums.sum_inside_of.Goals as goal

pub sum-requires-clause-fits : goal.sum-requires-clause-fits
sum-requires-clause-fits c =
    let g = weighed c.args.what in
    fits_by_from_yields_list (weight_of g c.args.tree.now.rows) (walk_from c.args.tree.now.rows c.args.from) c.map.result _
    (weights _ g _ _ (c.map.ensures.source ∙ c.walk-places.ensures.places) c.map.ensures.closure (λ x r q k. search (rules, tests)))
    (weight-fits g _ _ _ (weighed-small c.args.what) c.walk-places.ensures.sound)

pub returns-clause-sum : goal.returns-clause-sum
returns-clause-sum c =
    let g = weighed c.args.what in
    sum_by_from_yields_List (weight_of g c.args.tree.now.rows) (walk_from c.args.tree.now.rows c.args.from) c.map.result _ c.sum.ensures.ran
    (weights _ g _ _ (c.map.ensures.source ∙ c.walk-places.ensures.places) c.map.ensures.closure (λ x r q k. search (rules, tests)))
    ∙ whole-weight g c.args.tree.now.rows c.args.tree.now.next c.args.from c.walk-places.ensures.sound

pub returns-then-is_none-clause-sum : goal.returns-then-is_none-clause-sum
returns-then-is_none-clause-sum c =
    c.own_weight.ensures
    ∙ leaf-weight (weighed c.args.what) c.args.tree.now.rows c.args.tree.now.next c.args.from c.first_kid.result c.walk-places.ensures.sound c.first_kid.ensures c.if-is_none.ensures
