use Rattle.std.proofs.Common.{refl}
use Rattle.std.specs.Fmt.{digits}
use Rattle.hex.specs.Hex.{encode_with, decode_pairs}
use Rattle.tree_specs.specs.Calls.Refusals.{fits}
use Rattle.tree_specs.specs.Texts.Text.{refusal_numbers, row_kind_text, row_text, reply_text, event_text, ask_text, answered_text, what_text, item_text, end_text, body_text}
use Rattle.tree_specs.specs.Texts.Grammar.{number_of, owner_of, object_of, name_of, numeral_of, octets_of, call_of_words, call_of, input_of}
use Rattle.tree_specs.specs.Texts.Lines.{lines_of_parts, lines}
use Rattle.tree_specs.specs.Texts.Runners.{line_input, judged_from, judged_lines, transcript_lines}
use Rattle.tree_specs.specs.Texts.Schedule.{header_of, open_question}
use Rattle.tree_specs.proofs.examples.contexts_are_freed_with_what_they_own.Goals as goal

pub returns : goal.returns
unfolding digits refusal_numbers row_kind_text row_text reply_text event_text ask_text answered_text what_text item_text end_text body_text number_of owner_of object_of name_of numeral_of octets_of call_of_words call_of input_of lines_of_parts lines line_input judged_from judged_lines transcript_lines header_of open_question fits encode_with decode_pairs
returns c = refl
