use Rattle.std.proofs.Common.{sym, ap, ◌∙◌}
use Rattle.tree_specs.specs.Texts.Grammar.{is_short}
use Rattle.text_forms.proofs.Digits.{leading_is}
use Rattle.text_forms.proofs.number.leading_number.Goals as goal

pub returns-then-has_short_form : goal.returns-then-has_short_form
returns-then-has_short_form c =
    rw c.split_at.ensures.back (sym (leading_is c.args.text.now c.in_ok-n.n c.in_ok-n.count (sym c.in_ok-n.ensures) (ap is_short (sym c.split_at.ensures.front) ∙ sym c.has_short_form.ensures ∙ c.if-has_short_form.true)))
