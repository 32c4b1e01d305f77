use Rattle.std.proofs.Common.{◌≡◌, ℕ, List, sym, ap, ◌∙◌, subst}
use Rattle.tree_specs.specs.declared.frame.FreeFrame.{FreeFrame}
use Rattle.tree_specs.specs.Machine.FreeTable.{FreeMove}
use Rattle.tree_specs.specs.Tree.Pool.{Pool}
use Rattle.tree_links.specs.Links.{pool_of}
use Rattle.references.specs.Rows.{SameRefs}
use Rattle.references.proofs.Rows.{refs-same}
use Rattle.destructors.specs.Frees.{moved}
use Rattle.destructors.proofs.Quiet.{goes, ends, pushes, entered-refs}
use Rattle.destructors.proofs.works.move_quietly.Goals as goal

pub end_quietly-requires : goal.end_quietly-requires
end_quietly-requires c = ends c.args.work.now (pool_of c.args.tree.now) c.requires.rests c.in-Ending.answer (sym c.in-Ending.is ∙ c.outlook.ensures)

pub enter-requires : goal.enter-requires
enter-requires c = (goes c.args.work.now (pool_of c.args.tree.now) c.requires.rests c.in-Going.next (sym c.in-Going.is ∙ c.outlook.ensures)).1

pub returns-in-Ending-clause-refs : goal.returns-in-Ending-clause-refs
returns-in-Ending-clause-refs c = refs-same c.args.refs.now.pairs c.args.tree.now.rows c.end_quietly.new.tree.rows c.end_quietly.ensures.same_refs c.requires.refs

pub returns-in-Going-clause-moved : goal.returns-in-Going-clause-moved
returns-in-Going-clause-moved c =
    let works : c.enter.new.tree.frees ≡ c.args.tree.now.frees = ap (λ (z : List FreeFrame × ℕ). z.0) c.enter.ensures.works in
    rw (c.enter.ensures.rows, works) (ap (λ (m : FreeMove). moved m c.args.tree.now.frees) (goes c.args.work.now (pool_of c.args.tree.now) c.requires.rests c.in-Going.next (sym c.in-Going.is ∙ c.outlook.ensures)).0)

pub returns-in-Going-clause-refs : goal.returns-in-Going-clause-refs
returns-in-Going-clause-refs c =
    refs-same c.args.refs.now.pairs c.args.tree.now.rows c.enter.new.tree.rows
    (subst (SameRefs c.args.tree.now.rows) (sym (ap (λ (p : Pool). p.rows) c.enter.ensures.rows)) (entered-refs c.args.work.now c.in-Going.next (pool_of c.args.tree.now))) c.requires.refs

pub returns-in-Pushing-clause-moved : goal.returns-in-Pushing-clause-moved
returns-in-Pushing-clause-moved c =
    rw (c.push_free.ensures.rows, c.push_free.ensures.works)
    (ap (λ (m : FreeMove). moved m c.args.tree.now.frees) (pushes c.args.work.now (pool_of c.args.tree.now) c.requires.rests c.in-Pushing.first c.in-Pushing.second (sym c.in-Pushing.is ∙ c.outlook.ensures)))
