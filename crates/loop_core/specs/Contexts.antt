-- What there is to do in a context, and for how many more objects and contexts there is memory.
use Rattle.std.specs.Prelude.{◌≡◌, ◌<◌, ◌≤◌, []}
use Rattle.tree_specs.specs.declared.object.Obj.{Obj}
use Rattle.tree_specs.specs.Events.Pending.{soon_in, times_in}
use Rattle.tree_specs.specs.Events.Rotation.{ring_in}
use Rattle.immediates.specs.Waiting.{Waiting}
use Rattle.timers.specs.Timetable.{Timetable}
use Rattle.fd_events.specs.Rotation.{Rotation}

-- there is nothing to do in a context
pub record IsIdle (s : Waiting) (t : Timetable) (r : Rotation) (c : Obj) : Type 0 where
  pub soon : soon_in s.coming c ≡ []
  pub times : times_in t.dues c ≡ []
  pub ring : ring_in r.watches c ≡ []

-- one more context can be added without taking memory
pub record HasSpareContext (s : Waiting) (t : Timetable) (r : Rotation) : Type 0 where
  pub soon : 0 < s.contexts_spare
  pub times : 0 < t.contexts_spare
  pub ring : 0 < r.contexts_spare

-- no fewer can be added
pub record KeepsSpares (s s' : Waiting) (t t' : Timetable) (r r' : Rotation) : Type 0 where
  pub soon : s.spare ≤ s'.spare
  pub times : t.spare ≤ t'.spare
  pub ring : r.spare ≤ r'.spare
  pub soon_contexts : s.contexts_spare ≤ s'.contexts_spare
  pub times_contexts : t.contexts_spare ≤ t'.contexts_spare
  pub ring_contexts : r.contexts_spare ≤ r'.contexts_spare
