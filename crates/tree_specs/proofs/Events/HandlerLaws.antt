-- What runs when an event comes, where one handler is put in or taken out.
use Rattle.std.proofs.Common.{◌≡◌, ℕ, true, List, is_some, refl, ap}
use Rattle.tree_specs.specs.declared.object.Obj.{Obj}
use Rattle.tree_specs.specs.declared.handler.Handler.{Handler}
use Rattle.tree_specs.specs.declared.row.Row.{Row}
use Rattle.tree_specs.specs.Tree.Pool.{of_rows, without, remove}
use Rattle.tree_specs.specs.Events.Handlers.{Handlers, handler_of, with_handler}
use Rattle.tree_specs.proofs.Tree.Numbered.{same-equal}
use Rattle.tree_specs.proofs.Events.EntryLaws.{with-same}

-- it has a handler
pub with-own : (hs : Handlers) (x : Obj) (h : Handler) → is_some (handler_of (with_handler hs x h) x) ≡ true
with-own hs x h = ap is_some (with-same hs x x h (same-equal x x refl))

-- of objects that have no handlers one is removed
pub removed-rows : (rows : List Row) (next : ℕ) (x : Obj) → remove (of_rows rows next) x ≡ of_rows (without rows x) next
removed-rows rows next x = refl
