-- The statuses and what is said of them.
use Rattle.std.specs.Prelude.{ℕ, zero, suc, List, [], ◌++◌, Result, Ok, Err, codes}
use Rattle.std.specs.Fmt.{decimal}
use Rattle.tree_specs.specs.declared.schedule.Reason.{Reason}
use Rattle.tree_specs.specs.declared.schedule.Reason.TheVariants.{Limit, Form, NotAsked, Token}
use Rattle.schedule_replay.specs.declared.ran.Ran.{Ran}
use Rattle.schedule_replay.specs.declared.ran.Ran.TheVariants as rans
use Rattle.outside.specs.declared.output.PutError.{PutError}
use Rattle.outside.specs.declared.output.PutError.TheVariants as put_errors
use Rattle.serving.specs.declared.stop.Stop.{Stop}
use Rattle.serving.specs.declared.stop.Stop.TheVariants as stops
use Rattle.host_app.specs.declared.status.Status.{Status}
use Rattle.host_app.specs.declared.status.Status.TheVariants as statuses

abbrev pub status_of : Ran → Status
status_of rans.Done = statuses.Done
status_of rans.ReadFault = statuses.ReadFault
status_of (rans.BadSchedule line reason) = statuses.BadSchedule line reason
status_of rans.WriteFault = statuses.WriteFault
status_of rans.Memory = statuses.NoMemory

-- how it ended where only puts could fail, or memory run out
abbrev pub status_of_put : Result (Unit {0}) PutError → Status
status_of_put (Ok done) = statuses.Done
status_of_put (Err put_errors.Write) = statuses.WriteFault
status_of_put (Err put_errors.Memory) = statuses.NoMemory

-- how the service of lines ended
abbrev pub status_of_service : Result (Unit {0}) Stop → Status
status_of_service (Ok done) = statuses.Done
status_of_service (Err stops.Write) = statuses.WriteFault
status_of_service (Err stops.Link) = statuses.LinkFault
status_of_service (Err stops.Memory) = statuses.NoMemory

-- the number that the program ends with
abbrev pub status_number : Status → ℕ
status_number statuses.Done = 0
status_number statuses.ReadFault = 1
status_number statuses.Usage = 2
status_number (statuses.BadSchedule line reason) = 3
status_number statuses.WriteFault = 4
status_number statuses.LinkFault = 5
status_number statuses.NoMemory = 6
status_number (statuses.Broken line rule) = 7

-- what follows the number of a refused line
abbrev pub reason_text : Reason → List ℕ
reason_text Limit = codes ": limit\n"
reason_text Form = codes ": form\n"
reason_text NotAsked = codes ": not asked\n"
reason_text Token = codes ": token\n"

-- a number in decimal between two texts
abbrev pub numbered : List ℕ → ℕ → List ℕ → List ℕ
numbered before number after = before ++ (decimal number ++ after)

abbrev pub line_text : ℕ → Reason → List ℕ
line_text line reason = numbered (codes "line ") line (reason_text reason)

-- a line of no form is told as a schedule's is
abbrev pub flaw_text : ℕ → ℕ → List ℕ
flaw_text line zero = line_text line Form
flaw_text line (suc rule) = numbered (codes "line ") line (codes ": rule ") ++ numbered [] (suc rule) (codes "\n")

-- what is said of a status; where words aren't taken `clap` has said what to type
abbrev pub status_text : Status → List ℕ
status_text statuses.Done = []
status_text statuses.ReadFault = codes "read fault\n"
status_text statuses.Usage = []
status_text (statuses.BadSchedule line reason) = line_text line reason
status_text statuses.WriteFault = codes "write fault\n"
status_text statuses.LinkFault = codes "link fault\n"
status_text statuses.NoMemory = codes "no memory\n"
status_text (statuses.Broken line rule) = flaw_text line rule
