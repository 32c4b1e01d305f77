use Rattle.std.proofs.Common.{Some, sym, ◌∙◌}
use Rattle.tree_links.specs.Links.{pool_of}
use Rattle.destructors.specs.Frees.{frees_of}
use Rattle.destructors.specs.Works.{IsAwaiting}
use Rattle.destructors.specs.Engine.{IsAsked}
use Rattle.destructors.proofs.Begins.{answered, answered-speaks}
use Rattle.destructors.proofs.engine.FreeEngine.answer.Goals as goal

pub returns-in-Some-clause-settles : goal.returns-in-Some-clause-settles
returns-in-Some-clause-settles c =
    let asked : IsAsked (Some c.in-Some.work) = rw (sym c.self.view_is ∙ c.in-Some.is) at c.requires.asked in
    rw (c.judged.ensures (pool_of c.args._tree.now)) (answered-speaks c.in-Some.work c.args.value c.args._tree.now.frees (pool_of c.args._tree.now) asked)

pub returns-in-Some-clause-at_work : goal.returns-in-Some-clause-at_work
returns-in-Some-clause-at_work c =
    let asked : IsAsked (Some c.in-Some.work) = rw (sym c.self.view_is ∙ c.in-Some.is) at c.requires.asked in
    let a : IsAwaiting (frees_of (Some c.in-Some.work) c.args._tree.now) = rw (sym c.self.view_is ∙ c.in-Some.is) at c.requires.awaiting in
    rw (c.judged.ensures (pool_of c.args._tree.now)) (answered c.in-Some.work c.args.value c.args._tree.now.frees (pool_of c.args._tree.now) asked a)
