use Rattle.tree_specs.specs.Texts.Text.{row_text}
use Rattle.text_forms.proofs.Writing.{in_each}
use Rattle.text_forms.proofs.report_row.write_report_rows.Goals as goal

pub returns-in_err-write_report_row : goal.returns-in_err-write_report_row
returns-in_err-write_report_row c =
    in_each row_text c.row-item.result c.args.out.now.items c.loop-row.out.items c.write_report_row.new.out.items c.args.rows.now c.loop-row.row-index c.from_residual.result c.loop-row-test.true c.loop-row.invariant
    (rw c.row-item.is at c.in_err-write_report_row.ensures)
    c.from_residual.ensures.0
