use Rattle.command_words.proofs.NamedLaws.{taken_is_named}
use Rattle.command_words.proofs.laws.taken_words_name_a_command.Goals as goal

pub returns : goal.returns
returns c = taken_is_named
