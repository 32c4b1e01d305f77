use Rattle.std.proofs.Common.{◌∙◌, ap, ap₂}
use Rattle.std.proofs.lemmas.Result.{IfOk-weaker}
use Rattle.clap.specs.Words.{App, with_subcommand}
use Rattle.command_words.proofs.reading.command_line.Goals as goal

pub returns : goal.returns
returns c =
    IfOk-weaker c.subcommand-5.result _ _ (λ m h. h.shape c.in_ok-load.ensures.local
    ∙ ap₂ with_subcommand (c.in_ok-subcommand-4.ensures.shape c.in_ok-serve.ensures.local
    ∙ ap₂ with_subcommand (c.in_ok-subcommand-3.ensures.shape c.command-audit.ensures.local
    ∙ ap₂ with_subcommand (c.in_ok-subcommand-2.ensures.shape c.command-convert.ensures.local
    ∙ ap₂ with_subcommand (c.in_ok-subcommand.ensures.shape c.command-replay.ensures.local
    ∙ ap₂ with_subcommand c.in_ok-top.ensures.app (ap (λ (a : App). a.top) c.command-replay.ensures.app))
    (ap (λ (a : App). a.top) c.command-convert.ensures.app))
    (ap (λ (a : App). a.top) c.command-audit.ensures.app))
    (ap (λ (a : App). a.top) c.in_ok-serve.ensures.app))
    (ap (λ (a : App). a.top) c.in_ok-load.ensures.app)) c.subcommand-5.ensures
