use Rattle.std.proofs.Common.{refl}
use Rattle.hex.specs.Hex.{encode_with, decode_pairs}
use Rattle.tree_specs.specs.Texts.Grammar.{number_of, owner_of, object_of, name_of, numeral_of, octets_of}
use Rattle.tree_specs.specs.Texts.Lines.{lines_of_parts, lines}
use Rattle.transcript_lines.specs.Lines.{line_of}
use Rattle.audit_rules.specs.Flaws.{flaw}
use Rattle.audit_rules.proofs.examples.the_first_broken_rule_is_found.Goals as goal

pub returns : goal.returns
unfolding number_of owner_of object_of name_of numeral_of octets_of lines_of_parts lines line_of flaw encode_with decode_pairs
returns c = refl
