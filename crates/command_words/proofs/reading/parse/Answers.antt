use Rattle.std.proofs.Common.{◌≡◌, ◌∙◌, true, ap, map, refl, subst}
use Rattle.std.specs.String.{string_bytes}
use Rattle.clap.specs.Words.{App, FailsBy, fault_of, is_simple_and_free}
use Rattle.clap.proofs.OnLiterals.{clap_on_literals}
use Rattle.command_words.specs.CommandLine.{command_line}
use Rattle.command_words.proofs.reading.parse.Goals as goal

line_is_simple : is_simple_and_free command_line ≡ true
unfolding clap_on_literals
line_is_simple = refl

pub returns-clause-kinds : goal.returns-clause-kinds
returns-clause-kinds c =
    let simple = ap is_simple_and_free c.in_ok-command_line.ensures ∙ line_is_simple in
    subst (λ (a : App). FailsBy (fault_of a (map (λ w. string_bytes w) c.args.words.now)) c.try_get_matches_from.result) c.in_ok-command_line.ensures
    (c.try_get_matches_from.ensures.kinds simple)
