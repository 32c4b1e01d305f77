use Rattle.std.proofs.Common.{refl}
use Rattle.std.specs.Fmt.{digits}
use Rattle.tree_specs.specs.Calls.Refusals.{fits}
use Rattle.tree_specs.specs.Texts.Text.{call_text, input_text, refusal_numbers, row_kind_text, row_text, reply_text, event_text, ask_text, answered_text, what_text, item_text, end_text, body_text}
use Rattle.tree_specs.specs.Texts.Grammar.{number_of, owner_of, object_of, name_of, numeral_of, call_of_words, call_of, input_of}
use Rattle.tree_specs.specs.Texts.Lines.{lines_of_parts, lines}
use Rattle.tree_specs.specs.Texts.Runners.{line_input, judged_from, judged_lines, transcript_lines}
use Rattle.tree_specs.specs.Texts.Schedule.{header_of, open_question}
use Rattle.tree_specs.proofs.examples.schedules_are_made_from_a_number.Goals as goal

pub returns : goal.returns
unfolding digits call_text input_text refusal_numbers row_kind_text row_text reply_text event_text ask_text answered_text what_text item_text end_text body_text number_of owner_of object_of name_of numeral_of call_of_words call_of input_of lines_of_parts lines line_input judged_from judged_lines transcript_lines header_of open_question fits
returns c = record { draws = refl; four_calls = refl; four_calls_lines = refl; no_calls = refl; no_calls_lines = refl }
