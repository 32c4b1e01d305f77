use Rattle.std.proofs.Common.{rules, ◌∷◌, inl, sym, subst}
use Rattle.tree_specs.specs.Tree.Pool.{Pool}
use Rattle.references.specs.Rows.{AreRefsOf}
use Rattle.tree_links.specs.Links.{pool_of}
use Rattle.destructors.specs.Frees.{before, frees_of, Begins}
use Rattle.destructors.proofs.Hosting.{begins}
use Rattle.destructors.proofs.Begins.{begun, begun-room, waits-room}
use Rattle.destructors.proofs.Counting.{silent-rows}
use Rattle.destructors.proofs.engine.FreeEngine.begin.Goals as goal

pub settle-requires : goal.settle-requires
settle-requires c = record {
  ready = record {
    moves = inl (begun c.args.work c.args.self.now c.self.inside.innermost c.args.tree.now c.wait.new.tree c.self.view_is c.requires.first c.requires.awaiting c.wait.ensures.rows c.wait.ensures.works);
    room = begun-room c.args.work c.self.inside.innermost c.args.tree.now c.wait.new.tree (rw c.self.view_is c.requires.room) c.wait.ensures.rows c.wait.ensures.works c.wait.ensures.room;
  };
  refs = subst (λ (p : Pool). AreRefsOf c.args.refs.now.pairs p.rows) (sym c.wait.ensures.rows) c.requires.refs;
}

pub returns : goal.returns
returns c =
    let begun_so : Begins (c.args.work ∷ before c.args.self.now c.args.tree.now.frees) (pool_of c.args.tree.now) (frees_of c.settle.new.innermost c.settle.new.tree) = search rules in
    record {
      begins = begun_so;
      at_work =
          c.settle.ensures.at_work (begun c.args.work c.args.self.now c.self.inside.innermost c.args.tree.now c.wait.new.tree c.self.view_is c.requires.first c.requires.awaiting c.wait.ensures.rows c.wait.ensures.works);
      kept = search rules;
      room = search rules;
      spare = search rules;
      refs = search rules;
      places = search rules;
      same =
          (silent-rows (record { works = c.args.work ∷ before c.args.self.now c.args.tree.now.frees; pool = pool_of c.args.tree.now }) _
          (begins c.args.work (before c.args.self.now c.args.tree.now.frees) (pool_of c.args.tree.now) c.requires.first c.requires.awaiting) begun_so.moves_on).1;
    }

pub wait-requires : goal.wait-requires
wait-requires c = waits-room c.args.work c.self.inside.innermost c.args.tree.now (rw c.self.view_is c.requires.room)
