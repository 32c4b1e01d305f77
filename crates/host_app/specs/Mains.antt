-- What the top call answers and says.
use Rattle.std.specs.Prelude.{ℕ, List, length, take, map, Option, Ok, Err, String, ◌⊎◌}
use Rattle.std.specs.String.{string_bytes}
use Rattle.std.specs.Io.KnownBytes.{Appends}
use Rattle.outside.specs.Causes.{Rose}
use Rattle.outside.specs.Puts.{IsBeyond}
use Rattle.outside.specs.declared.output.PutError.TheVariants as put_errors
use Rattle.schedule_replay.specs.declared.ran.Ran.TheVariants as rans
use Rattle.schedule_replay.specs.Converts.{Converts}
use Rattle.load_schedule.specs.Loads.{PutsFiveLines}
use Rattle.command_words.specs.CommandLine.{Asked, command_of}
use Rattle.host_app.specs.declared.status.Status.{Status}
use Rattle.host_app.specs.declared.status.Status.TheVariants as statuses

-- what the words ask for; none where they aren't taken
abbrev pub names : {Z : Type 0} → List (String Z) → Option Asked
names words = command_of (map (λ w. string_bytes w) words)

-- How a conversion ends: with the whole schedule, at a rejected line, or earlier after a fault or without memory, and in no other way.
abbrev pub ConvertsTo : List ℕ → Option (List ℕ) → Option (List ℕ) → Option (List ℕ) → Status → Type 0
ConvertsTo bytes left held now statuses.Done = Converts bytes left held now rans.Done
ConvertsTo bytes left held now statuses.ReadFault = Converts bytes left held now rans.ReadFault
ConvertsTo bytes left held now (statuses.BadSchedule line reason) = Converts bytes left held now (rans.BadSchedule line reason)
ConvertsTo bytes left held now statuses.WriteFault = Converts bytes left held now rans.WriteFault
ConvertsTo bytes left held now statuses.NoMemory = Converts bytes left held now rans.Memory
ConvertsTo bytes left held now _ = ⊥

-- How a load ends: with the five lines, or with a prefix of them after a fault or without memory, and in no other way.
abbrev pub Loads : ℕ → ℕ → Option (List ℕ) → Option (List ℕ) → Status → Type 0
Loads number count held now statuses.Done = PutsFiveLines number count held now (Ok tt)
Loads number count held now statuses.WriteFault = PutsFiveLines number count held now (Err put_errors.Write)
Loads number count held now statuses.NoMemory = PutsFiveLines number count held now (Err put_errors.Memory)
Loads number count held now _ = ⊥

-- a prefix of the text has been said, as a put failed or the room that the sink told was less than the text
pub record SaysFront (held now : Option (List ℕ)) (room : Option ℕ) (faults faults_now : ℕ) (text : List ℕ) : Type 0 where
  pub count : ℕ
  pub put : Appends held now (take count text)
  pub cause : Rose faults faults_now ⊎ IsBeyond room (length text)

-- the text has been said, or a prefix of it
abbrev pub Says : Option (List ℕ) → Option (List ℕ) → Option ℕ → ℕ → ℕ → List ℕ → Type 0
Says held now room faults faults_now text = Appends held now text ⊎ SaysFront held now room faults faults_now text
