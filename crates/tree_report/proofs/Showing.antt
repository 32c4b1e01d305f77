-- The rows of a report are those of a walk.
use Rattle.std.proofs.Common.{◌≡◌, ℕ, zero, suc, ◌+◌, List, [], ◌∷◌, ◌++◌, length, Option, Some, None, true, false, refl, sym, ◌∙◌, ap, arith}
use Rattle.std.proofs.lemmas.List.{append_assoc, append-nil}
use Rattle.tree_specs.specs.declared.object.Obj.{Obj}
use Rattle.tree_specs.specs.declared.object.Owner.{Owner}
use Rattle.tree_specs.specs.declared.object.Owner.TheVariants.{Root, Of}
use Rattle.tree_specs.specs.declared.report.ReportRow.{ReportRow}
use Rattle.tree_specs.specs.declared.row.Row.{Row}
use Rattle.tree_specs.specs.Tree.Pool.{row_of, owner_in, owner_of, is_object_row, is_owner, kids}
use Rattle.tree_specs.specs.Tree.Reports.{with_below, report_each, report_below, report}
use Rattle.tree_specs.specs.Tree.Forest.{Distinct, IsThere, AllOwned}
use Rattle.tree_specs.proofs.Tree.Rooted.{is_there-owner}
use Rattle.tree_links.specs.Links.{IsTree}
use Rattle.tree_links.specs.declared.walk.Place.{Place}
use Rattle.tree_links.specs.Walk.{placed, walk_from}
use Rattle.tree_report.specs.Shown.{shown_row, shown_at, shown}
use Rattle.tree_links.proofs.Walking.{EachOwned, kids-owned}

-- ---- the rows along a walk

shown-append : (rs : List Row) (ps qs : List Place) → shown rs (ps ++ qs) ≡ shown rs ps ++ shown rs qs
shown-append rs [] qs = refl
shown-append rs (p ∷ ps) qs =
    ap (λ (l : List ReportRow). shown_at rs p.depth p.owner ++ l) (shown-append rs ps qs)
    ∙ sym (append_assoc (shown_at rs p.depth p.owner) (shown rs ps) (shown rs qs))

-- an owned object is a row
with_below-there : (rs : List Row) (d : ℕ) (p : Owner) (o : Option Row) (below : List ReportRow) → owner_in o ≡ Some p → with_below rs d o below ≡ shown_row rs d o ++ below
with_below-there rs d p None below e = cc
with_below-there rs d p (Some r) below e = refl

each-shown : (n d : ℕ) (rs : List Row) (p : Owner) (xs : List Obj) → EachOwned rs p xs
    → ((x : Obj) → report_each n rs (d + 1) (kids rs (Of x)) ≡ shown rs (placed n rs (suc d) (kids rs (Of x))))
    → report_each (suc n) rs d xs ≡ shown rs (placed (suc n) rs d xs)
each-shown n d rs p [] o k = refl
each-shown n d rs p (x ∷ xs) o k =
    let below : List Place = placed n rs (suc d) (kids rs (Of x)) in
    let row : List ReportRow = shown_row rs d (row_of rs x) in
    let e1 : with_below rs d (row_of rs x) (report_each n rs (d + 1) (kids rs (Of x))) ≡ row ++ shown rs below
    = with_below-there rs d p (row_of rs x) (report_each n rs (d + 1) (kids rs (Of x))) o.0 ∙ ap (λ (l : List ReportRow). row ++ l) (k x) in
    ap (λ (l : List ReportRow). l ++ report_each (suc n) rs d xs) e1
    ∙ ap (λ (l : List ReportRow). (row ++ shown rs below) ++ l) (each-shown n d rs p xs o.1 k)
    ∙ append_assoc row (shown rs below) (shown rs (placed (suc n) rs d xs))
    ∙ ap (λ (l : List ReportRow). row ++ l) (sym (shown-append rs below (placed (suc n) rs d xs)))

placed-shown : (n d : ℕ) (rs : List Row) (p : Owner) → Distinct rs → report_each n rs d (kids rs p) ≡ shown rs (placed n rs d (kids rs p))
placed-shown zero d rs p distinct = refl
placed-shown (suc n) d rs p distinct = each-shown n d rs p (kids rs p) (kids-owned rs p distinct)
    (λ x. placed-shown n (d + 1) rs (Of x) distinct ∙ ap (λ (k : ℕ). shown rs (placed n rs k (kids rs (Of x)))) (let e : d + 1 ≡ suc d = omega arith in e))

-- what is no object has no children
no-owner : (rs : List Row) (x : Obj) (ys : List Obj) → AllOwned rs → row_of rs x ≡ None → EachOwned rs (Of x) ys → ys ≡ []
no-owner rs x [] a e o = refl
no-owner rs x (y ∷ ys) a e o =
    let there : IsThere rs (owner_of rs y) = is_there-owner rs rs y a in
    let is : is_owner rs (Of x) ≡ true = rw o.0 at there in
    let bad : false ≡ true = sym (ap is_object_row e) ∙ is in cc

nothing-below : (n : ℕ) (rs : List Row) (d : ℕ) → report_each n rs d [] ≡ []
nothing-below zero rs d = refl
nothing-below (suc n) rs d = refl

report-from : (rs : List Row) (p : Owner) → Distinct rs → AllOwned rs → report rs p ≡ shown_at rs 0 p ++ report_below rs p
report-from rs Root distinct a = refl
report-from rs (Of x) distinct a = go (row_of rs x) refl
  where
    go : (o : Option Row) → row_of rs x ≡ o → with_below rs 0 (row_of rs x) (report_below rs (Of x)) ≡ shown_row rs 0 (row_of rs x) ++ report_below rs (Of x)
    go (Some r) e = rw e refl
    go None e =
        let alone : kids rs (Of x) ≡ [] = no-owner rs x (kids rs (Of x)) a e (kids-owned rs (Of x) distinct) in
        rw e (sym (nothing-below (length rs) rs 1) ∙ ap (report_each (length rs) rs 1) (sym alone))

-- the report is the rows of the walk
pub walk_shown : (rs : List Row) (next : ℕ) (from : Owner) → IsTree rs next → shown rs (walk_from rs from) ≡ report rs from
walk_shown rs next from t =
    ap (λ (l : List Place). shown_at rs 0 from ++ shown rs l) (append-nil (placed (length rs) rs 1 (kids rs from)))
    ∙ ap (λ (l : List ReportRow). shown_at rs 0 from ++ l) (sym (placed-shown (length rs) 1 rs from t.forest.distinct))
    ∙ sym (report-from rs from t.forest.distinct t.forest.owned)
