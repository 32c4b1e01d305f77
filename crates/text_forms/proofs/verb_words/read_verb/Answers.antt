use Rattle.std.proofs.Common.{sym, ◌∙◌}
use Rattle.text_forms.proofs.Verbs.{no_such_verb, is_verb_of, is_other_verb}
use Rattle.text_forms.proofs.verb_words.read_verb.Goals as goal

pub returns-in_err-verb : goal.returns-in_err-verb
returns-in_err-verb c = no_such_verb c.args.version c.from_residual.result c.args.word.now c.from_residual.ensures c.in_err-verb.ensures

pub returns-then-has_verb : goal.returns-then-has_verb
returns-then-has_verb c = is_verb_of c.args.version c.in_ok-verb.verb c.args.word.now c.in_ok-verb.ensures (sym c.has_verb.ensures ∙ c.if-has_verb.true)

pub returns-else-has_verb : goal.returns-else-has_verb
returns-else-has_verb c = is_other_verb c.args.version c.in_ok-verb.verb c.args.word.now c.in_ok-verb.ensures (sym c.has_verb.ensures ∙ c.if-has_verb.false)
