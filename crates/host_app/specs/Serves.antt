-- How the service of lines ends.
use Rattle.std.specs.Prelude.{ℕ, List}
use Rattle.serving.specs.declared.stop.Stop.TheVariants as stops
use Rattle.serving.specs.Stations.{Ends, ServesLines, StopsLines}
use Rattle.host_app.specs.declared.status.Status.{Status}
use Rattle.host_app.specs.declared.status.Status.TheVariants as statuses

-- With so many answers given, or earlier after a fault or without memory, and in no other way.
abbrev pub Serves : List ℕ → ℕ → Status → Ends → Ends → Type 0
Serves path answers statuses.Done before after = ServesLines path answers before after
Serves path answers statuses.WriteFault before after = StopsLines path answers stops.Write before after
Serves path answers statuses.LinkFault before after = StopsLines path answers stops.Link before after
Serves path answers statuses.NoMemory before after = StopsLines path answers stops.Memory before after
Serves path answers _ before after = ⊥
