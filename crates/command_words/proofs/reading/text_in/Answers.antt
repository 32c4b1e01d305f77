use Rattle.std.proofs.Common.{rules, ◌≡◌, ◌∙◌, ◌==◌, ap, sym, Some, None, true, false, length, option_and_then}
use Rattle.clap.specs.Words.{first_value, found_of}
use Rattle.clap.specs.Walk.{nonempty}
use Rattle.command_words.proofs.TextLaws.{empty_is, nonempty_is, text_of_rows}
use Rattle.command_words.proofs.reading.text_in.Goals as goal
use Rattle.command_words.proofs.reading.text_in.Goals.{in_default-via-in-Some+else-not-is_empty, in_default-via-in_default}

pub returns-in-Some : goal.returns-in-Some
returns-in-Some c =
    let value : first_value (found_of c.args.matches.now) c.args.name.now ≡ Some c.in-Some.text.now = search rules in
    let some : (length c.in-Some.text.now == 0) ≡ false = search rules in
    sym (text_of_rows c.args.name.now (found_of c.args.matches.now) ∙ ap (option_and_then nonempty) value ∙ nonempty_is c.in-Some.text.now some)

pub returns-in_default : goal.returns-in_default
returns-in_default c = elim c.in_default.branch [
  | in_default-via-in-Some+else-not-is_empty w ↦
      let value : first_value (found_of c.args.matches.now) c.args.name.now ≡ Some w.in-Some.text.now = search rules in
      let none : (length w.in-Some.text.now == 0) ≡ true = search rules in
      sym (text_of_rows c.args.name.now (found_of c.args.matches.now) ∙ ap (option_and_then nonempty) value ∙ empty_is w.in-Some.text.now none)
  | in_default-via-in_default w ↦
      let value : first_value (found_of c.args.matches.now) c.args.name.now ≡ None = search rules in
      sym (text_of_rows c.args.name.now (found_of c.args.matches.now) ∙ ap (option_and_then nonempty) value)
]
