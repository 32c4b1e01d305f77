use Rattle.std.proofs.Common.{◌≡◌, ◌++◌}
use Rattle.tree_specs.specs.Tree.Reports.{report}
use Rattle.tree_report.specs.Shown.{shown}
use Rattle.tree_report.proofs.listing.rows.Given as goal

abbrev pub invariant-loop-place : goal.invariant-loop-place
invariant-loop-place l = l.rows.items ++ shown l.tree.rows l.place-iterator ≡ report l.tree.rows l.fn.from
