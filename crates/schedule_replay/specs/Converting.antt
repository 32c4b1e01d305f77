-- A schedule whose lines are turned into the second version.
use Rattle.std.specs.Prelude.{◌≡◌, ℕ, List, Option, Some, None, Result, Ok, Err, ⊤, ◌++◌}
use Rattle.tree_specs.specs.declared.schedule.Header.{Header}
use Rattle.tree_specs.specs.declared.schedule.Reason.TheVariants.{Form}
use Rattle.tree_specs.specs.declared.schedule.Version.{Version}
use Rattle.tree_specs.specs.declared.schedule.Version.TheVariants.{Two}
use Rattle.tree_specs.specs.Texts.Grammar.{input_of}
use Rattle.tree_specs.specs.Texts.Lines.{Line}
use Rattle.tree_specs.specs.Texts.Runners.{judged_lines}
use Rattle.tree_specs.specs.Texts.Schedule.{header_of, header_text}
use Rattle.tree_specs.specs.Texts.Text.{newline}
use Rattle.tree_specs.specs.Texts.Written.{WritesFront}
use Rattle.schedule_text.specs.Converted.{IsConverted}
use Rattle.schedule_versions.specs.Conversions.{converted_lines, shaper, shapers}
use Rattle.schedule_replay.specs.declared.conversion.Conversion.{Conversion}
use Rattle.schedule_replay.specs.declared.stop.Stop.{Stop}
use Rattle.schedule_replay.specs.declared.stop.Stop.TheVariants as errors
use Rattle.schedule_replay.specs.Replays.{Replayed, with_front, replayed_lines}

-- all lines, the first one too
abbrev pub converted_all : List Line → Replayed
converted_all ls = record { text = Some (converted_lines ls); refused = (judged_lines shapers ls).refused }

-- before the first line, and then by the version that it says
abbrev pub converted_from : Option Version → ℕ → List Line → Replayed
converted_from None n ls = converted_all ls
converted_from (Some v) n ls = replayed_lines (shaper v) n ls

abbrev pub plays : Conversion → ℕ → List Line → Replayed
plays c n ls = with_front c.text.items (converted_from c.version n ls)

abbrev pub text_in : Conversion → List ℕ
text_in c = c.text.items

-- the first line is the first
abbrev pub is_next : Option Version → ℕ → Type 0
is_next None n = n ≡ 1
is_next (Some v) n = ⊤

abbrev pub ready : Conversion → ℕ → Type 0
ready c n = is_next c.version n

-- ---- a line

-- the first line in the second version
abbrev pub first_line : Header → List ℕ
first_line h = header_text Two h.mode ++ newline

-- the first line was taken, or is no header, or there was no memory
abbrev pub TakesHeader : Conversion → List ℕ → Conversion → Result (Unit {0}) Stop → Type 0
TakesHeader c line d (Ok done) = (h : Header) × (header_of line ≡ Some h) × (d.version ≡ Some h.version) × (d.text.items ≡ c.text.items ++ first_line h)
TakesHeader c line d (Err (errors.Refused n why)) = (n ≡ 1) × (why ≡ Form) × (header_of line ≡ None) × (d.text.items ≡ c.text.items)
TakesHeader c line d (Err errors.Memory) = (h : Header) × (header_of line ≡ Some h) × WritesFront c.text.items d.text.items (first_line h)
TakesHeader c line d (Err errors.Read) = ⊥
TakesHeader c line d (Err errors.Write) = ⊥

-- line n was written in the second version, or spells nothing, or there was no memory
abbrev pub TurnsLine : Version → ℕ → List ℕ → List ℕ → List ℕ → Result (Unit {0}) Stop → Type 0
TurnsLine v n line before after (Ok done) = IsConverted v line before after
TurnsLine v n line before after (Err (errors.Refused m why)) = (m ≡ n) × (why ≡ Form) × (input_of v line ≡ None) × (after ≡ before)
TurnsLine v n line before after (Err errors.Memory) = after ≡ before
TurnsLine v n line before after (Err errors.Read) = ⊥
TurnsLine v n line before after (Err errors.Write) = ⊥
