-- What loading a schedule writes.
use Rattle.std.specs.Prelude.{◌≡◌, ℕ, List, Option, Some, Result}
use Rattle.outside.specs.Outputs.{PutsAll}
use Rattle.outside.specs.declared.output.PutError.{PutError}
use Rattle.service_rules.specs.Schedules.{transcript_of}
use Rattle.tree_specs.specs.Texts.Load.{load_schedule, five_lines}

-- The five lines of the transcript of the schedule that is made from a number have been put, or at an error a prefix of them.
pub record PutsFiveLines (number count : ℕ) (held now : Option (List ℕ)) (result : Result (Unit {0}) PutError) : Type 0 where
  pub transcript : List ℕ
  pub replayed : transcript_of (load_schedule number count) ≡ Some transcript
  pub put : PutsAll held now result (five_lines count transcript)
