-- What a report writes.
use Rattle.std.specs.Prelude.{ℕ, List, Option, Result, Ok, Err}
use Rattle.std.specs.Io.KnownBytes.{Appends}
use Rattle.tree_specs.specs.declared.memory.Memory.{Memory}
use Rattle.outside.specs.declared.sink.Done.{Done}
use Rattle.outside.specs.declared.sink.Done.TheVariants as done
use Rattle.outside.specs.Outputs.{PutsFront}

-- all of the text has been put; after a fault and without memory a prefix of it
abbrev pub Puts : Option (List ℕ) → Option (List ℕ) → Result Done Memory → List ℕ → Type 0
Puts old new (Ok done.Done) text = Appends old new text
Puts old new (Ok done.Failed) text = PutsFront old new text
Puts old new (Err e) text = PutsFront old new text
