-- What a pool of objects keeps.
use Rattle.std.specs.Prelude.{◌≡◌, ◌<◌, true}
use Rattle.tree_specs.specs.declared.object.Obj.{Obj}
use Rattle.tree_specs.specs.Tree.Pool.{row_of, is_context_row}
use Rattle.references.specs.Rows.{AreRefsOf}
use Rattle.memory_limits.specs.Limits.{AreLimitsOf}
use Rattle.destructors.specs.Engine.{AreKept, HasRoom}
use Rattle.object_pool.specs.declared.pool.ObjectPool.TheInside.{Inside}
use Rattle.object_pool.specs.Objects.{HasCallRoom, MayWait}
use Rattle.object_pool.specs.Upcoming.{holds_context, AreGiven}

-- references and limits are those of the rows, there is room for what is open, no time, no watching event and no request has a number
-- that is still to be given, and there is a place for all that may come in each context
pub record AgreeWith (b : Inside) : Type 0 where
  pub references : AreRefsOf b.refs.pairs b.tree.rows
  pub limits : AreLimitsOf b.sums.limited b.tree.rows
  pub kept : AreKept b.engine b.tree
  pub room : HasRoom b.engine b.tree
  pub given : AreGiven b.tree.next b.events.upcoming
  pub contexts : (c : Obj) → is_context_row (row_of b.tree.rows c) ≡ true → holds_context b.events c ≡ true
  pub call : b.ready ≡ true → HasCallRoom b.tree
  pub placed : b.ready ≡ true → (b.reference ≡ true) × (b.limit ≡ true) × (b.event ≡ true) × (b.context ≡ true)
  pub reference : b.reference ≡ true → 0 < b.refs.spare
  pub limit : b.limit ≡ true → 0 < b.sums.spare
  pub event : b.event ≡ true → MayWait b.events
  pub context : b.context ≡ true → 0 < b.events.contexts_spare
