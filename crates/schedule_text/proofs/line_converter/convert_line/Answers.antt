use Rattle.std.proofs.Common.{ℕ, Bool, cond, List, [], ◌++◌, ap, ◌∙◌, codes}
use Rattle.tree_specs.specs.Texts.Text.{newline}
use Rattle.schedule_text.proofs.Converting.{is_turned}
use Rattle.schedule_text.proofs.line_converter.convert_line.Goals as goal

pub returns : goal.returns
returns c = record {
  input = c.in_ok-input.input;
  read = c.in_ok-input.ensures.value;
  written =
      c.in_ok-append_line.ensures.text
      ∙ ap (λ (b : Bool). c.args.out.now.items ++ (c.args.line.now ++ cond b (codes " 0") [] ++ newline)) c.gains_context.ensures
      ∙ ap (λ (l : List ℕ). c.args.out.now.items ++ l) (is_turned c.args.version c.args.line.now c.in_ok-input.input c.in_ok-input.ensures.sound c.in_ok-input.ensures.spelled);
}
