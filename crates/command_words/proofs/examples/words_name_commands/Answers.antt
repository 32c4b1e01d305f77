use Rattle.std.proofs.Common.{refl}
use Rattle.clap.proofs.OnLiterals.{clap_on_literals}
use Rattle.command_words.proofs.examples.words_name_commands.Goals as goal

pub returns-clause-replay : goal.returns-clause-replay
unfolding clap_on_literals
returns-clause-replay c = refl

pub returns-clause-audit : goal.returns-clause-audit
unfolding clap_on_literals
returns-clause-audit c = refl

pub returns-clause-load : goal.returns-clause-load
unfolding clap_on_literals
returns-clause-load c = refl

pub returns-clause-least : goal.returns-clause-least
unfolding clap_on_literals
returns-clause-least c = refl

pub returns-clause-most : goal.returns-clause-most
unfolding clap_on_literals
returns-clause-most c = refl

pub returns-clause-serve : goal.returns-clause-serve
unfolding clap_on_literals
returns-clause-serve c = refl

pub returns-clause-most_answers : goal.returns-clause-most_answers
unfolding clap_on_literals
returns-clause-most_answers c = refl

pub returns-clause-convert : goal.returns-clause-convert
unfolding clap_on_literals
returns-clause-convert c = refl
