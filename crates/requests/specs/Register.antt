-- The notes of requests as their callers see them.
use Rattle.std.specs.Prelude.{ℕ, T, Option, Some, None}
use Rattle.std.specs.Ordering.{nat_cmp}
use Rattle.std.specs.FinMap.Entries.{is_sorted}
use Rattle.tree_specs.specs.declared.handler.Handler.{Handler}
use Rattle.tree_specs.specs.declared.object.Obj.{Obj}
use Rattle.tree_specs.specs.declared.request.Note.{Note}
use Rattle.tree_specs.specs.Events.Requests.{Notes, renoted, cleaned, not_deferring}
use Rattle.requests.specs.declared.requests.Notify.{Notify}
use Rattle.requests.specs.declared.requests.Notify.TheVariants.{Post, Run, Nothing}

pub record Register : Type 0 where
  -- those of all requests, by their numbers
  pub notes : Notes
  -- so many can be added without taking memory
  pub spare : ℕ

-- they stand in the order of the numbers
abbrev pub AreInOrder : Notes → Type 0
AreInOrder notes = T (is_sorted nat_cmp notes)

-- its callback runs, where it has one
abbrev pub callback_runs : Option Handler → Notify
callback_runs None = Nothing
callback_runs (Some handler) = Run handler

-- one whose callback is deferred is posted, in the context that was kept for this
abbrev pub posts : Option Obj → Notify → Notify
posts None notify = notify
posts (Some c) notify = Post c

-- what is done where a request is over
abbrev pub notify_of : Option Note → Notify
notify_of None = Nothing
notify_of (Some n) = posts n.deferred (callback_runs n.callback)

-- a cleanup that is to run counts as run
abbrev pub left_by : Option Handler → Notes → Obj → Notes
left_by None notes x = notes
left_by (Some handler) notes x = renoted cleaned notes x

-- one that was posted is deferred no more
abbrev pub posted_by : Notify → Notes → Obj → Notes
posted_by (Post c) notes x = renoted not_deferring notes x
posted_by notify notes x = notes
