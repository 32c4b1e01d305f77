-- What runs when an event comes: handlers by the numbers of their events, in the order of the numbers.
use Rattle.std.specs.Prelude.{ℕ, not, List, Option}
use Rattle.std.specs.List.{filter}
use Rattle.std.specs.Ordering.{nat_cmp, eq_by_cmp}
use Rattle.std.specs.FinMap.Entries.{find, put}
use Rattle.tree_specs.specs.declared.object.Obj.{Obj}
use Rattle.tree_specs.specs.declared.handler.Handler.{Handler}

abbrev pub Handlers : Type 0
Handlers = List (ℕ × Handler)

-- none where the event has no handler
abbrev pub handler_of : Handlers → Obj → Option Handler
handler_of handlers x = find nat_cmp x.0 handlers

-- an event that has a handler already gets the new one
abbrev pub with_handler : Handlers → Obj → Handler → Handlers
with_handler handlers x handler = put nat_cmp x.0 handler handlers

abbrev pub without_handler : Handlers → Obj → Handlers
without_handler handlers x = filter (λ h. not (eq_by_cmp nat_cmp x.0 h.0)) handlers
