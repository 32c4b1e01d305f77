use Rattle.std.proofs.Common.{◌∙◌, ap}
use Rattle.std.specs.Prelude.{Option, Some, true}
use Rattle.clap.specs.Words.{Rule, rule_of}
use Rattle.clap.specs.declared.builder.value_parser.ValueParser.{ValueParser}
use Rattle.command_words.proofs.reading.required.Goals as goal

pub returns-clause-rule : goal.returns-clause-rule
returns-clause-rule c =
    let given = c.value_parser.ensures.given in
    ap rule_of c.value_parser.ensures.others
    ∙ ap (λ (p : Option ValueParser). record (rule_of c.required.result) { parser = p }) (given.1 ∙ ap Some given.2)
    ∙ ap (λ (r : Rule). record r { parser = Some c.args.parser }) (ap rule_of c.required.ensures ∙ ap (λ (r : Rule). record r { required = true }) (ap rule_of c.help.ensures ∙ c.new.ensures.rule))
