use Rattle.std.proofs.Common.{refl}
use Rattle.std.specs.Fmt.{digits}
use Rattle.hex.specs.Hex.{encode_with, decode_pairs}
use Rattle.tree_specs.specs.Calls.Refusals.{fits}
use Rattle.tree_specs.specs.Texts.Text.{refusal_numbers, row_kind_text, row_text, reply_text, event_text, ask_text, answered_text, what_text, item_text, end_text, body_text}
use Rattle.tree_specs.specs.Texts.Grammar.{number_of, owner_of, object_of, name_of, numeral_of, octets_of, call_of_words, call_of, input_of}
use Rattle.service_rules.specs.Lines.{front_of, after_newline, line_of}
use Rattle.service_rules.specs.Answers.{answer_line}
use Rattle.service_rules.specs.Routines.{verdict_of, progress_of}
use Rattle.service_rules.proofs.examples.unsent_bytes_hold_up_reading.Goals as goal

pub returns : goal.returns
unfolding digits refusal_numbers row_kind_text row_text reply_text event_text ask_text answered_text what_text item_text end_text body_text number_of owner_of object_of name_of numeral_of octets_of call_of_words call_of input_of fits encode_with decode_pairs front_of after_newline line_of answer_line verdict_of progress_of
returns c = record { told = refl; held = refl; free = refl; bytes = refl }
