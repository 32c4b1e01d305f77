use Rattle.std.proofs.Common.{◌≡◌, ◌∙◌, ap}
use Rattle.std.specs.Prelude.{true}
use Rattle.std.proofs.lemmas.Result.{IfOk-weaker}
use Rattle.clap.specs.Words.{app_of}
use Rattle.clap.specs.Simple.{app_of_fields, on_top}
use Rattle.command_words.specs.CommandLine.{top_app}
use Rattle.command_words.proofs.reading.top.Goals as goal

pub returns-clause-app : goal.returns-clause-app
returns-clause-app c =
    let set : app_of c.subcommand_required.result ≡ top_app =
    ap app_of_fields c.subcommand_required.ensures
    ∙ ap (on_top (λ s. record s { subcommand_required = true })) (ap app_of_fields c.arg_required_else_help.ensures
    ∙ ap (on_top (λ s. record s { arg_required_else_help = true })) (ap app_of_fields c.no_binary_name.ensures
    ∙ ap (on_top (λ s. record s { no_binary_name = true })) c.command.ensures.app)) in
    IfOk-weaker c.bin_name.result _ _ (λ m h. ap app_of_fields h.0 ∙ set) c.bin_name.ensures
