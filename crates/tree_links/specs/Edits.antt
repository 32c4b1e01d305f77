-- What of a row is written anew where it stands.
use Rattle.std.specs.Prelude.{◌<◌}
use Rattle.tree_specs.specs.declared.object.Obj.{Obj}
use Rattle.tree_specs.specs.declared.row.Row.{Row}
use Rattle.tree_specs.specs.Calls.Refusals.{size_limit}
use Rattle.tree_specs.specs.Tree.Pool.{Pool, changed, named_row, marked_row, hooked_row, sized_row, limited_row}
use Rattle.tree_links.specs.declared.node.Edit.{Edit}
use Rattle.tree_links.specs.declared.node.Edit.TheVariants as edit

abbrev pub edited : Edit → Row → Row
edited (edit.Name name) = named_row name
edited (edit.Mark mark) = marked_row mark
edited (edit.Hook hook) = hooked_row hook
edited (edit.Size size) = sized_row size
edited (edit.Limit limit) = limited_row limit

abbrev pub with_edit : Pool → Obj → Edit → Pool
with_edit p x what = record p { rows = changed (edited what) p.rows x }

-- a size that it writes is below the limit
abbrev pub KeepsSmall : Edit → Type 0
KeepsSmall (edit.Size size) = size < size_limit
KeepsSmall _ = Unit {0}
