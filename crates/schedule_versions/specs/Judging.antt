-- Two schedules that come to the same.
use Rattle.std.specs.Prelude.{◌≡◌, ℕ, List}
use Rattle.service_rules.specs.Schedules.{inputs_of, judge, transcript_of}

-- one is judged as the other, has its inputs, and gives its transcript
pub record IsJudgedAlike (bytes others : List ℕ) : Type 0 where
  pub judged : judge others ≡ judge bytes
  pub inputs : inputs_of others ≡ inputs_of bytes
  pub transcript : transcript_of others ≡ transcript_of bytes
