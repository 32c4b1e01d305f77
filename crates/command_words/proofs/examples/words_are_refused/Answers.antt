use Rattle.std.proofs.Common.{refl}
use Rattle.clap.proofs.OnLiterals.{clap_on_literals}
use Rattle.command_words.proofs.examples.words_are_refused.Goals as goal

pub returns-clause-none : goal.returns-clause-none
unfolding clap_on_literals
returns-clause-none c = refl

pub returns-clause-help : goal.returns-clause-help
unfolding clap_on_literals
returns-clause-help c = refl

pub returns-clause-help_word : goal.returns-clause-help_word
unfolding clap_on_literals
returns-clause-help_word c = refl

pub returns-clause-other : goal.returns-clause-other
unfolding clap_on_literals
returns-clause-other c = refl

pub returns-clause-one_more : goal.returns-clause-one_more
unfolding clap_on_literals
returns-clause-one_more c = refl

pub returns-clause-audit_of_a_file : goal.returns-clause-audit_of_a_file
unfolding clap_on_literals
returns-clause-audit_of_a_file c = refl

pub returns-clause-no_count : goal.returns-clause-no_count
unfolding clap_on_literals
returns-clause-no_count c = refl

pub returns-clause-large_number : goal.returns-clause-large_number
unfolding clap_on_literals
returns-clause-large_number c = refl

pub returns-clause-large_count : goal.returns-clause-large_count
unfolding clap_on_literals
returns-clause-large_count c = refl

pub returns-clause-no_number : goal.returns-clause-no_number
unfolding clap_on_literals
returns-clause-no_number c = refl

pub returns-clause-no_answers : goal.returns-clause-no_answers
unfolding clap_on_literals
returns-clause-no_answers c = refl

pub returns-clause-zero_answers : goal.returns-clause-zero_answers
unfolding clap_on_literals
returns-clause-zero_answers c = refl

pub returns-clause-large_answers : goal.returns-clause-large_answers
unfolding clap_on_literals
returns-clause-large_answers c = refl

pub returns-clause-empty_path : goal.returns-clause-empty_path
unfolding clap_on_literals
returns-clause-empty_path c = refl

pub returns-clause-option_for_path : goal.returns-clause-option_for_path
unfolding clap_on_literals
returns-clause-option_for_path c = refl

pub returns-clause-word_after_answers : goal.returns-clause-word_after_answers
unfolding clap_on_literals
returns-clause-word_after_answers c = refl

pub returns-clause-convert_to_a_version : goal.returns-clause-convert_to_a_version
unfolding clap_on_literals
returns-clause-convert_to_a_version c = refl
