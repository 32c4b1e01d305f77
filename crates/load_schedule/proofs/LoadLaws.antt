-- What loading a schedule comes to.
use Rattle.std.proofs.Common.{◌≡◌, ◌∙◌, ◌++◌, ℕ, List, [], Option, Some, None, Err, refl, sym, ap, append_assoc, inl, inr}
use Rattle.std.proofs.KnownBytes.{Appends-nil}
use Rattle.outside.specs.declared.output.PutError.TheVariants as put_errors
use Rattle.tree_specs.specs.declared.schedule.Version.TheVariants.{One}
use Rattle.tree_specs.specs.declared.schedule.Mode.TheVariants.{Pool, Service}
use Rattle.tree_specs.specs.Texts.Lines.{lines}
use Rattle.tree_specs.specs.Texts.Load.{calls_text, load_calls, load_schedule}
use Rattle.tree_specs.specs.Texts.Schedule.{header_of, header_text}
use Rattle.tree_specs.specs.Texts.Text.{newline}
use Rattle.line_pieces.proofs.LineLaws.{lines_ended}
use Rattle.schedule_replay.specs.Runs.{WritesText, IsFrontOf, mode_in}
use Rattle.schedule_replay.proofs.WholeLaws.{not-begun}
use Rattle.load_schedule.specs.Loads.{PutsFiveLines}

-- a text that was written to nothing is all that is there
pub writes-all : (text : Option (List ℕ)) (now : List ℕ) → WritesText text (Some []) (Some now) → text ≡ Some now
writes-all None now w = absurd w
writes-all (Some text) now w = ap Some (sym w)

-- a host runs the lines of a schedule that is made from a number
load-runs : (number count : ℕ) → mode_in (lines (load_schedule number count)) ≡ Some Pool
unfolding header_of
load-runs number count =
    let calls : List ℕ = calls_text (load_calls number count) in
    ap mode_in (ap lines (append_assoc (header_text One Pool) newline calls) ∙ lines_ended (header_text One Pool) calls refl)

-- where there was no memory nothing was put, which is a prefix of the five lines
pub load-front : (number count : ℕ) (held : Option (List ℕ)) → PutsFiveLines number count held held (Err put_errors.Memory)
load-front number count held =
    let front : IsFrontOf (load_schedule number count) None None = not-begun (Some (load_schedule number count)) None in
    elim front.text [
      | inl text ↦ record { transcript = front.front ++ text.0; replayed = text.1; put = (0, Appends-nil held) }
      | inr out ↦ (let no : Some Pool ≡ Some Service = sym (load-runs number count) ∙ out.0 in absurd cc)
    ]
