-- Worked examples: schedules with their transcripts, line by line.
use Rattle.std.specs.Prelude.{ℕ, List, [], ◌∷◌, ◌++◌, map, flat_map, Option, Some, codes}
use Rattle.tree_specs.specs.Rules.Story.{story, items}
use Rattle.tree_specs.specs.Texts.Text.{transcript}
use Rattle.tree_specs.specs.Texts.Schedule.{inputs_of}
use Prim.Native.String.{String}

-- a line of a schedule, and what the transcript has up to the next question: a line, or lines with an LF between them
abbrev pub Exchange : Type 0
Exchange = String × String

abbrev pub Example : Type 0
Example = List Exchange

abbrev pub text_of : List String → List ℕ
text_of lines = flat_map (λ line. codes line ++ codes "\n") lines

abbrev pub schedule_of : String → Example → List ℕ
schedule_of header example = text_of (header ∷ map (λ exchange. exchange.0) example)

-- each of them ends with no caller but the host's own
abbrev pub transcript_of : Example → List ℕ
transcript_of example = text_of ("tv transcript 1" ∷ map (λ exchange. exchange.1) example ++ "end quiet" ∷ [])

-- what the rules tell over its schedule, as text
abbrev pub told : Example → Option (List ℕ)
told example = transcript (items (story 1 (inputs_of (schedule_of "tv schedule 1 pool" example))))

-- the same over a schedule of version 2
abbrev pub told_in_2 : Example → Option (List ℕ)
told_in_2 example = transcript (items (story 1 (inputs_of (schedule_of "tv schedule 2 pool" example))))

-- what it is to be told
abbrev pub wanted : Example → Option (List ℕ)
wanted example = Some (transcript_of example)
