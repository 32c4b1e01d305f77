use Rattle.std.proofs.Common.{refl}
use Rattle.tree_specs.specs.Calls.Plans.Change.{Add, Place, TakeNumber}
use Rattle.tree_specs.specs.Tree.Pool.{hooked_row, limited_row, named_row, sized_row}
use Rattle.tree_specs.proofs.Invariants.Changes.{hooks-place, limits-place, names-place, sizes-place}
use Rattle.destructors.proofs.Meanwhile.{awaits-change, awaits-edit}
use Rattle.destructors.proofs.laws.what_is_done_to_the_tree_keeps_it_awaiting.Goals as goal

pub returns : goal.returns
returns c = record {
  add = λ fs p kind o size name a there target. awaits-change fs p (Add kind o size name) a (record { there = there; target = target });
  place = λ fs p o x a may. awaits-change fs p (Place o x) a may;
  take = λ fs p a. awaits-change fs p TakeNumber a tt;
  rename = λ fs p x name a is. awaits-edit fs p x (named_row name) a is (names-place name) (λ r. refl);
  resize = λ fs p x size a is. awaits-edit fs p x (sized_row size) a is (sizes-place size) (λ r. refl);
  limit = λ fs p x most a is. awaits-edit fs p x (limited_row most) a is (limits-place most) (λ r. refl);
  hook = λ fs p x routine a is. awaits-edit fs p x (hooked_row routine) a is (hooks-place routine) (λ r. refl);
}
