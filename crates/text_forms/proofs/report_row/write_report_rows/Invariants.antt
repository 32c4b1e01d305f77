use Rattle.std.proofs.Common.{◌≡◌, ◌++◌, take}
use Rattle.tree_specs.specs.Texts.Text.{rows_text}
use Rattle.text_forms.proofs.report_row.write_report_rows.Given as goal

abbrev pub invariant-loop-row : goal.invariant-loop-row
invariant-loop-row l = l.out.items ≡ l.fn.out.items ++ rows_text (take l.row-index l.rows)
