use Rattle.std.proofs.Common.{◌≡◌, ◌∷◌, true, sym, ◌∙◌, inl, inr}
use Rattle.tree_links.specs.Links.{pool_of}
use Rattle.destructors.specs.Frees.{moves, speaks}
use Rattle.destructors.proofs.FreeMoves.{Announces, announced}
use Rattle.destructors.proofs.engine.FreeEngine.announces.Goals as goal

pub returns-in-Unlinking : goal.returns-in-Unlinking
returns-in-Unlinking c =
    let loud : speaks (c.in-Some.work ∷ c.args.tree.now.frees) (moves (c.in-Some.work ∷ c.args.tree.now.frees) (pool_of c.args.tree.now)).0 ≡ true = rw (sym c.self.view_is ∙ c.in-Some.is) at c.requires.settled in
    let announces : Announces c.in-Some.work = elim c.in-Unlinking.is [
      | inl u ↦ rw u.2 tt
      | inr (inl u) ↦ rw u.1 tt
      | inr (inr (inl u)) ↦ rw u.2 tt
      | inr (inr (inr (inl u))) ↦ rw u.3 tt
      | inr (inr (inr (inr u))) ↦ rw u.5 tt
    ] in
    rw (sym c.self.view_is ∙ c.in-Some.is) (sym (announced c.in-Some.work c.args.tree.now.frees (pool_of c.args.tree.now) announces loud))
