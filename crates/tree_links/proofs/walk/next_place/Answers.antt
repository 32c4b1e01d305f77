use Rattle.std.proofs.Common.{arith, sym, ◌∙◌}
use Rattle.tree_links.proofs.Walking.{deep-bound, down-place, down-deep, no-down}
use Rattle.tree_links.proofs.walk.next_place.Goals as goal

pub overflow_add-result : goal.overflow_add-result
overflow_add-result c = omega (arith, deep-bound c.args.tree.now.rows c.args.tree.now.next c.args.place c.requires.sound c.requires.deep, c.requires.sound.few)

pub returns-in-Some-clause-ahead : goal.returns-in-Some-clause-ahead
returns-in-Some-clause-ahead c = down-place c.args.tree.now.rows c.args.tree.now.next c.args.place c.in-Some.x c.requires.sound (sym c.in-Some.ensures)

pub returns-in-Some-clause-deep : goal.returns-in-Some-clause-deep
returns-in-Some-clause-deep c = down-deep c.args.tree.now.rows c.args.tree.now.next c.args.place c.in-Some.x c.requires.sound (sym c.in-Some.ensures) c.requires.deep

pub returns-in-None-clause-ahead : goal.returns-in-None-clause-ahead
returns-in-None-clause-ahead c = no-down c.args.tree.now.rows c.args.place (sym c.in-None.ensures) ∙ c.place_after.ensures.left
