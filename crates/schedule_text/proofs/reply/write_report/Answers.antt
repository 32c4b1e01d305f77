use Rattle.tree_specs.specs.Texts.Text.{rows_text}
use Rattle.text_forms.proofs.Writing.{then_writes, then_fails}
use Rattle.schedule_text.proofs.Parts.{rows_line, report_text-parts}
use Rattle.schedule_text.proofs.reply.write_report.Goals as goal

pub returns-in_err-write_report_rows : goal.returns-in_err-write_report_rows
returns-in_err-write_report_rows c =
    let rows = c.as_slice-rows.result.now in
    then_fails c.args.out.now.items c.write_report_rows.new.out.items (rows_text rows) (rows_line rows) _ c.from_residual.result c.in_err-write_report_rows.ensures c.from_residual.ensures.0
    (report_text-parts c.args.report.now rows c.as_slice-rows.ensures)

pub returns : goal.returns
returns c =
    let rows = c.as_slice-rows.result.now in
    then_writes c.args.out.now.items c.write_report_rows.new.out.items c.write_numbers.new.out.items (rows_text rows) (rows_line rows) _ c.write_numbers.result c.in_ok-write_report_rows.ensures c.write_numbers.ensures
    (report_text-parts c.args.report.now rows c.as_slice-rows.ensures)
