use Rattle.command_words.proofs.TakenLaws.{load_of_decimals}
use Rattle.command_words.proofs.laws.each_load_is_taken.Goals as goal

pub returns : goal.returns
returns c = load_of_decimals
