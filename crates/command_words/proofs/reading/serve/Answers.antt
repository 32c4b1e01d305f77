use Rattle.std.proofs.Common.{◌≡◌, ◌∙◌, ap₂, ap}
use Rattle.std.specs.Prelude.{pos, codes}
use Rattle.std.proofs.lemmas.Result.{IfOk-weaker}
use Rattle.clap.specs.Words.{with_rule}
use Rattle.clap.specs.declared.builder.value_parser.ValueParser.TheVariants as parsers
use Rattle.command_words.specs.CommandLine.{required_rule}
use Rattle.command_words.proofs.reading.serve.Goals as goal

pub returns-clause-app : goal.returns-clause-app
returns-clause-app c =
    let range : c.range.result ≡ parsers.Signed (pos 1) (pos 1000000000) = rw (c.value_parser.ensures, c.new.ensures.start, c.new.ensures.end) at c.range.ensures in
    IfOk-weaker c.arg-2.result _ _ (λ m h. h.shape c.required-answers.ensures.local
    ∙ ap₂ with_rule (c.in_ok-arg.ensures.shape c.required-path.ensures.local
    ∙ ap₂ with_rule c.command.ensures.app c.required-path.ensures.rule)
    (c.required-answers.ensures.rule ∙ ap (required_rule (codes "ANSWERS")) range)) c.arg-2.ensures
