-- The row of a report for each place of a walk.
use Rattle.std.specs.Prelude.{ℕ, List, [], ◌∷◌, ◌++◌, Option, Some, None}
use Rattle.tree_specs.specs.declared.object.Owner.{Owner}
use Rattle.tree_specs.specs.declared.object.Owner.TheVariants.{Root, Of}
use Rattle.tree_specs.specs.declared.report.ReportRow.{ReportRow}
use Rattle.tree_specs.specs.declared.row.Row.{Row}
use Rattle.tree_specs.specs.Tree.Pool.{row_of}
use Rattle.tree_specs.specs.Tree.Reports.{root_row, report_row}
use Rattle.tree_links.specs.declared.walk.Place.{Place}

-- the row of an object at this depth, where there is one
abbrev pub shown_row : List Row → ℕ → Option Row → List ReportRow
shown_row rs depth None = []
shown_row rs depth (Some r) = report_row rs depth r ∷ []

-- the row of an owner at this depth; none where it is neither the root nor an object
abbrev pub shown_at : List Row → ℕ → Owner → List ReportRow
shown_at rs depth Root = root_row ∷ []
shown_at rs depth (Of x) = shown_row rs depth (row_of rs x)

-- the rows of these places
abbrev pub shown : List Row → List Place → List ReportRow
shown rs [] = []
shown rs (place ∷ places) = shown_at rs place.depth place.owner ++ shown rs places
