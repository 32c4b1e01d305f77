use Rattle.std.proofs.Common.{sym, ap, ◌∙◌}
use Rattle.std.proofs.lemmas.Result.{err_from_is_err_and}
use Rattle.tree_specs.specs.Texts.Grammar.{call_of}
use Rattle.text_forms.specs.Cursor.{words_left}
use Rattle.text_forms.specs.Verbs.{fields_read}
use Rattle.text_forms.proofs.Verbs.{found_is, no_end, all_read, handed_on}
use Rattle.text_forms.proofs.call_reader.call_value.Goals as goal

pub returns-in_err-end : goal.returns-in_err-end
returns-in_err-end c =
    let v = c.args.version in
    let is = found_is v c.read_verb.result c.in_ok-verb.verb c.split_word.result.0.now c.in_ok-verb.ensures.ok_part c.read_verb.ensures in
    let fault = err_from_is_err_and c.from_residual-in_err-end.result c.from_residual-in_err-end.ensures.1 in
    handed_on c.from_residual-in_err-end.result fault.0 c.in_err-end.field-0.0 (call_of v c.args.text.now) fault.1 fault.2
    (no_end v c.args.text.now c.split_word.result.0.now (words_left c.split_word.result.1) c.read_fields.new.fields c.in_ok-verb.verb c.in_ok-call.call c.in_err-end.field-0.0 c.split_word.ensures is
    (sym (ap (fields_read v c.in_ok-verb.verb) c.make-fields.ensures) ∙ c.in_ok-call.ensures) c.in_err-end.ensures)

pub returns : goal.returns
returns c =
    let v = c.args.version in
    let is = found_is v c.read_verb.result c.in_ok-verb.verb c.split_word.result.0.now c.in_ok-verb.ensures.ok_part c.read_verb.ensures in
    all_read v c.args.text.now c.split_word.result.0.now (words_left c.split_word.result.1) c.read_fields.new.fields c.in_ok-verb.verb c.in_ok-call.call c.split_word.ensures is
    (sym (ap (fields_read v c.in_ok-verb.verb) c.make-fields.ensures) ∙ c.in_ok-call.ensures) c.in_ok-end.ensures
