use Rattle.command_words.proofs.TakenLaws.{serve_of_path}
use Rattle.command_words.proofs.laws.each_serve_is_taken.Goals as goal

pub returns : goal.returns
returns c = serve_of_path
