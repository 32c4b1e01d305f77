use Rattle.std.proofs.Common.{◌≡◌, rules, Some}
use Rattle.clap.specs.Words.{subcommand_rows_of}
use Rattle.command_words.specs.declared.command.Command.TheVariants as commands
use Rattle.command_words.proofs.RangeLaws.{command_in_range}
use Rattle.command_words.proofs.reading.read_words.Goals as goal

pub returns-in-Ok-clause-few : goal.returns-in-Ok-clause-few
returns-in-Ok-clause-few c = λ number count is.
    let met : c.command_met.result ≡ Some (commands.Load number count) = search rules in
    command_in_range (subcommand_rows_of c.in-Ok.matches) c.command_met.result (commands.Load number count) c.command_met.ensures met

pub returns-in-Ok-clause-served : goal.returns-in-Ok-clause-served
returns-in-Ok-clause-served c = λ path answers is.
    let met : c.command_met.result ≡ Some (commands.Serve path answers) = search rules in
    command_in_range (subcommand_rows_of c.in-Ok.matches) c.command_met.result (commands.Serve path answers) c.command_met.ensures met
