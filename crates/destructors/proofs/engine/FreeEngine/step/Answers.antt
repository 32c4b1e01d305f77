use Rattle.std.proofs.Common.{rules, ◌∷◌, sym, ◌∙◌}
use Rattle.tree_links.specs.Links.{pool_of}
use Rattle.destructors.specs.Works.{AtWork}
use Rattle.destructors.proofs.Keeping.{work-rests}
use Rattle.destructors.proofs.Counting.{step-changes}
use Rattle.destructors.proofs.Settling.{tells, told-settled}
use Rattle.destructors.proofs.engine.FreeEngine.step.Goals as goal

pub settle-requires : goal.settle-requires
settle-requires c = record {
  ready =
      (tells c.in-Some.work c.args.self.now c.args.tree.now c.advance-progress.result.told c.in-Some-told.told c.advance-progress.result.innermost c.advance-progress.new.tree
      (sym c.self.view_is ∙ c.in-Some.is) c.requires.at_work c.requires.room c.in-Some-told.is c.advance-progress.ensures.moved c.advance-progress.ensures.kept c.advance-progress.ensures.room).ready;
  refs = c.advance-progress.ensures.refs;
}

pub returns-clause-steps : goal.returns-clause-steps
returns-clause-steps c = search rules

pub returns-clause-changed : goal.returns-clause-changed
returns-clause-changed c = step-changes _ _ _ c.requires.at_work (returns-clause-steps c)

pub returns-clause-goes_on : goal.returns-clause-goes_on
returns-clause-goes_on c =
    let t = tells c.in-Some.work c.args.self.now c.args.tree.now c.advance-progress.result.told c.in-Some-told.told c.advance-progress.result.innermost c.advance-progress.new.tree
    (sym c.self.view_is ∙ c.in-Some.is) c.requires.at_work c.requires.room c.in-Some-told.is c.advance-progress.ensures.moved c.advance-progress.ensures.kept c.advance-progress.ensures.room in
    told-settled c.in-Some-told.told _ _ t.goes_on c.settle.ensures.moves_on c.settle.ensures.at_work

pub advance-progress-requires-clause-rests : goal.advance-progress-requires-clause-rests
advance-progress-requires-clause-rests c =
    let w : AtWork (c.in-Some.work ∷ c.args.tree.now.frees) (pool_of c.args.tree.now) = rw (sym c.self.view_is ∙ c.in-Some.is) at c.requires.at_work in
    work-rests c.in-Some.work c.args.tree.now.frees (pool_of c.args.tree.now) w
