-- The line of a row of a report, in the parts that are written one after the other.
use Rattle.std.proofs.Common.{◌≡◌, ℕ, List, [], ◌∷◌, ◌++◌, codes, append_assoc}
use Rattle.tree_specs.specs.declared.report.ReportRow.{ReportRow}
use Rattle.tree_specs.specs.Texts.Text.{numbers_text, row_kind_text, row_text, newline}

-- where the row stands in the tree
abbrev pub place_text : ReportRow → List ℕ
place_text r = codes "row" ++ numbers_text (r.depth ∷ r.id ∷ []) ++ codes " "

-- its kind and its numbers
abbrev pub sizes_text : ReportRow → List ℕ
sizes_text r = row_kind_text r.kind ++ numbers_text (r.size ∷ r.refs ∷ r.target ∷ []) ++ codes " "

pub row_text-parts : (r : ReportRow) → row_text r ≡ place_text r ++ (sizes_text r ++ (r.name ++ newline))
unfolding row_text
row_text-parts r = in_three (codes "row") (numbers_text (r.depth ∷ r.id ∷ [])) (codes " ") (row_kind_text r.kind) (numbers_text (r.size ∷ r.refs ∷ r.target ∷ [])) (codes " ") r.name newline
  where
    in_three : (a b c d e f g h : List ℕ) → a ++ b ++ c ++ d ++ e ++ f ++ g ++ h ≡ (a ++ b ++ c) ++ ((d ++ e ++ f) ++ (g ++ h))
    in_three a b c d e f g h = simp append_assoc
