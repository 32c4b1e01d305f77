use Rattle.std.proofs.Common.{refl, ap, ◌∙◌}
use Rattle.tree_links.specs.declared.node.Edit.{Edit}
use Rattle.tree_links.specs.declared.node.Edit.TheVariants.{Name, Mark, Hook, Size, Limit}
use Rattle.tree_links.specs.Edits.{edited, with_edit, KeepsSmall}
use Rattle.tree_links.specs.Links.{Links, pool_of}
use Rattle.tree_links.proofs.Keeping.{mended-linked, mended-rows, pool-rows}
use Rattle.tree_links.proofs.Trees.{Mends}
use Rattle.tree_links.proofs.tree.Tree.edit.Goals as goal

mends : (e : Edit) → KeepsSmall e → Mends (edited e)
mends (Size size) small = record { place = record { serial = λ r. refl; owner = λ r. refl; kind = λ r. refl }; size = λ r l. small }
mends (Name name) small = record { place = record { serial = λ r. refl; owner = λ r. refl; kind = λ r. refl }; size = λ r l. l }
mends (Mark mark) small = record { place = record { serial = λ r. refl; owner = λ r. refl; kind = λ r. refl }; size = λ r l. l }
mends (Hook hook) small = record { place = record { serial = λ r. refl; owner = λ r. refl; kind = λ r. refl }; size = λ r l. l }
mends (Limit limit) small = record { place = record { serial = λ r. refl; owner = λ r. refl; kind = λ r. refl }; size = λ r l. l }

pub invariant_of-self : goal.invariant_of-self
invariant_of-self c = mended-linked _ _ c.args.x.0 (edited c.args.edit) c.write.ensures.nodes c.write.ensures.len (mends c.args.edit c.requires.small) _ _ _ c.self.invariant

pub returns-clause-rows : goal.returns-clause-rows
returns-clause-rows c =
    pool-rows _ _ _ (mended-rows _ _ c.args.x.0 (edited c.args.edit) c.write.ensures.nodes c.write.ensures.len (mends c.args.edit c.requires.small) _ _ _ c.self.invariant)
    ∙ ap (λ (t : Links). with_edit (pool_of t) c.args.x c.args.edit) c.self.view_is
