-- What the first line of a schedule starts.
use Rattle.std.specs.Prelude.{◌≡◌, ℕ, List, [], Some, None, Result, Ok, Err}
use Rattle.tree_specs.specs.declared.schedule.Mode.TheVariants as modes
use Rattle.tree_specs.specs.declared.schedule.Reason.TheVariants.{Form}
use Rattle.tree_specs.specs.declared.schedule.Version.{Version}
use Rattle.tree_specs.specs.Machine.View.{begin}
use Rattle.tree_specs.specs.Texts.Grammar.{input_of}
use Rattle.tree_specs.specs.Texts.Schedule.{misfit, header_of, says}
use Rattle.service_rules.specs.Stations.{Shows, StationView, unborn}
use Rattle.schedule_replay.specs.declared.play.Play.{Play}
use Rattle.schedule_replay.specs.declared.stage.Stage.{Stage}
use Rattle.schedule_replay.specs.declared.stage.Stage.TheVariants.{Header, Pool, Service}
use Rattle.schedule_replay.specs.declared.stop.Stop.{Stop}
use Rattle.schedule_replay.specs.declared.stop.Stop.TheVariants as errors
use Rattle.schedule_replay.specs.Hosts.{host_standing}
use Rattle.schedule_replay.specs.Stations.{station_standing}
use Rattle.schedule_replay.specs.Plays.{Begins}

-- a service that was set up begins, of which the outside has seen nothing yet
abbrev pub BeginsService : Version → Play StationView → Type 0
BeginsService v play = (first : StationView) × Shows [] unborn first × Begins (input_of v) misfit station_standing first play

-- A host or a service that begins runs the lines after this one, or the line is refused, or there was no memory.
abbrev pub StartsAfter : List ℕ → Result Stage Stop → Type 0
StartsAfter line (Ok (Header alloc)) = ⊥
StartsAfter line (Ok (Pool play)) = (header_of line ≡ Some (says play.version modes.Pool)) × Begins (input_of play.version) misfit host_standing (begin 1) play
StartsAfter line (Ok (Service play)) = (header_of line ≡ Some (says play.version modes.Service)) × BeginsService play.version play
StartsAfter line (Err (errors.Refused n why)) = (n ≡ 1) × (why ≡ Form) × (header_of line ≡ None)
StartsAfter line (Err errors.Memory) = Unit {0}
StartsAfter line (Err errors.Read) = ⊥
StartsAfter line (Err errors.Write) = ⊥
