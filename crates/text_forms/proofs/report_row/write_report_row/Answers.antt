use Rattle.std.proofs.Common.{◌++◌, refl}
use Rattle.tree_specs.specs.Texts.Text.{newline}
use Rattle.text_forms.proofs.Rows.{place_text, sizes_text, row_text-parts}
use Rattle.text_forms.proofs.Writing.{then_writes, then_fails}
use Rattle.text_forms.proofs.report_row.write_report_row.Goals as goal

pub returns-in_err-write_place : goal.returns-in_err-write_place
returns-in_err-write_place c =
    let row = c.args.row.now in
    then_fails c.args.out.now.items c.write_place.new.out.items (place_text row) (sizes_text row ++ (row.name ++ newline)) _ c.from_residual.result c.in_err-write_place.ensures c.from_residual.ensures.0
    (row_text-parts row)

pub returns-in_err-write_sizes : goal.returns-in_err-write_sizes
returns-in_err-write_sizes c =
    let row = c.args.row.now in
    then_writes c.args.out.now.items c.write_place.new.out.items c.write_sizes.new.out.items (place_text row) (sizes_text row ++ (row.name ++ newline)) _ c.from_residual-in_err-write_sizes.result c.in_ok-write_place.ensures
    (then_fails c.write_place.new.out.items c.write_sizes.new.out.items (sizes_text row) (row.name ++ newline) _ c.from_residual-in_err-write_sizes.result c.in_err-write_sizes.ensures c.from_residual-in_err-write_sizes.ensures.0 refl)
    (row_text-parts row)

pub returns : goal.returns
returns c =
    let row = c.args.row.now in
    then_writes c.args.out.now.items c.write_place.new.out.items c.write_name.new.out.items (place_text row) (sizes_text row ++ (row.name ++ newline)) _ c.write_name.result c.in_ok-write_place.ensures
    (then_writes c.write_place.new.out.items c.write_sizes.new.out.items c.write_name.new.out.items (sizes_text row) (row.name ++ newline) _ c.write_name.result c.in_ok-write_sizes.ensures c.write_name.ensures refl)
    (row_text-parts row)
