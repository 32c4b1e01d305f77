use Rattle.std.proofs.Common.{rules, Some, ◌∷◌, sym, ◌∙◌}
use Rattle.tree_links.specs.Links.{pool_of}
use Rattle.destructors.specs.Frees.{before, frees_of, was_prepared, prepared, Begins}
use Rattle.destructors.specs.Works.{AtWork, IsAwaiting}
use Rattle.destructors.specs.Engine.{IsPreparing, HasRoom, IsBetweenCalls}
use Rattle.destructors.proofs.Begins.{prepared-works, prepared-ready}
use Rattle.destructors.proofs.Counting.{silent-rows}
use Rattle.destructors.proofs.engine.FreeEngine.prepared.Goals as goal

pub settle-requires-clause-ready : goal.settle-requires-clause-ready
settle-requires-clause-ready c =
    let is : IsPreparing (Some c.in-Some.work) = rw (sym c.self.view_is ∙ c.in-Some.is) at c.requires.preparing in
    let a : IsAwaiting (frees_of (Some c.in-Some.work) c.args.tree.now) = rw (sym c.self.view_is ∙ c.in-Some.is) at c.requires.awaiting in
    let room : HasRoom (Some c.in-Some.work) c.args.tree.now = rw (sym c.self.view_is ∙ c.in-Some.is) at c.requires.room in
    let ready : IsBetweenCalls (Some (was_prepared c.in-Some.work)) c.args.tree.now = prepared-ready c.in-Some.work c.args.tree.now is a room in
    rw c.going_on.ensures ready

pub returns-in-Some : goal.returns-in-Some
returns-in-Some c =
    let is : IsPreparing (Some c.in-Some.work) = rw (sym c.self.view_is ∙ c.in-Some.is) at c.requires.preparing in
    let a : IsAwaiting (frees_of (Some c.in-Some.work) c.args.tree.now) = rw (sym c.self.view_is ∙ c.in-Some.is) at c.requires.awaiting in
    let work : AtWork (was_prepared c.in-Some.work ∷ c.args.tree.now.frees) (pool_of c.args.tree.now) = prepared-works c.in-Some.work c.args.tree.now.frees (pool_of c.args.tree.now) is a in
    let work' : AtWork (c.going_on.result ∷ c.args.tree.now.frees) (pool_of c.args.tree.now) = rw c.going_on.ensures work in
    let begun : Begins (prepared (before c.args.self.now c.args.tree.now.frees)) (pool_of c.args.tree.now) (frees_of c.settle.new.innermost c.settle.new.tree) = rw (sym c.self.view_is ∙ c.in-Some.is) (search rules) in
    record {
      begins = begun;
      at_work = c.settle.ensures.at_work work';
      kept = search rules;
      room = search rules;
      spare = search rules;
      refs = search rules;
      places = search rules;
      same = (silent-rows (frees_of (Some c.going_on.result) c.args.tree.now) _ work' c.settle.ensures.moves_on).1;
    }
