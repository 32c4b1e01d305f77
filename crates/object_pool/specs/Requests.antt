-- What is left of the objects where a request is cleaned up, and where it is notified.
use Rattle.std.specs.Prelude.{ℕ, length}
use Rattle.std.specs.List.{filter}
use Rattle.tree_specs.specs.Events.Requests.{Notes, is_unreceived}
use Rattle.std.specs.Prelude.{Option, Some, None, false}
use Rattle.tree_specs.specs.declared.handler.Handler.{Handler}
use Rattle.tree_specs.specs.declared.object.Obj.{Obj}
use Rattle.tree_specs.specs.Events.Requests.{cleaned}
use Rattle.tree_specs.specs.Tree.Pool.{Pool, renote, schedule_deferred}
use Rattle.requests.specs.declared.requests.Notify.{Notify}
use Rattle.requests.specs.declared.requests.Notify.TheVariants.{Post}
use Rattle.object_pool.specs.Objects.{Objects}

-- a cleanup that is to run counts as run
abbrev pub cleaning : Obj → Option Handler → Pool → Pool
cleaning x None p = p
cleaning x (Some handler) p = renote p x cleaned

-- a request whose callback is deferred comes soon, which uses up the memory for a call
abbrev pub notifying : Obj → Notify → Objects → Objects
notifying x (Post c) o = record o { pool = schedule_deferred o.pool x c; ready = false }
notifying x notify o = o

-- how many requests are still to be received
abbrev pub count_unreceived : Notes → ℕ
count_unreceived notes = length (filter (λ n. is_unreceived (Some n.1)) notes)
