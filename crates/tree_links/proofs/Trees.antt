-- What keeps that the rows are a tree.
use Rattle.std.proofs.Common.{◌≡◌, ℕ, ◌+◌, ◌<◌, ◌≤◌, List, [], ◌∷◌, length, Option, Some, None, true, false, refl, sym, ap, arith}
use Rattle.tree_specs.specs.declared.kind.Kind.{Kind}
use Rattle.tree_specs.specs.declared.object.Obj.{Obj}
use Rattle.tree_specs.specs.declared.object.Owner.{Owner}
use Rattle.tree_specs.specs.declared.object.Owner.TheVariants.{Of}
use Rattle.tree_specs.specs.declared.row.Row.{Row}
use Rattle.tree_specs.specs.Words.Objects.{same}
use Rattle.tree_specs.specs.Calls.Refusals.{row_limit, size_limit}
use Rattle.tree_specs.specs.Tree.Pool.{Pool, row_of, is_owner, is_inside, first_kid, without, changed, new_row, left_row, place}
use Rattle.tree_specs.proofs.Tree.Numbered.{by_test, same-true}
use Rattle.tree_specs.proofs.Tree.Rows.{row_of-serial}
use Rattle.tree_specs.proofs.Tree.Rooted.{KeepsPlace, forest-new, forest-placed, forest-changed, forest-left, forest-without}
use Rattle.tree_links.specs.Links.{AllFit, IsTree}

-- ---- a new row

fit-more : (next : ℕ) (rs : List Row) → AllFit next rs → AllFit (next + 1) rs
fit-more next [] f = tt
fit-more next (r ∷ rs) f = (omega (arith, f.0), f.1, fit-more next rs f.2)

-- the next number is no row's
pub fresh : (next : ℕ) (rs : List Row) → AllFit next rs → row_of rs (record { 0 = next }) ≡ None
fresh next [] f = refl
fresh next (r ∷ rs) f = by_test (same r.serial (record { 0 = next }))
    (λ t. let e : r.serial.0 ≡ next = ap (λ (x : Obj). x.0) (same-true r.serial (record { 0 = next }) t) in absurd (omega (arith, f.0, e)))
    (λ t. rw t (fresh next rs f.2))

pub added-tree : (rs : List Row) (next : ℕ) (kind : Kind) (o : Owner) (size : ℕ) (name : List ℕ) → IsTree rs next → length rs < row_limit → size < size_limit → is_owner rs o ≡ true
    → IsTree (new_row (record { 0 = next }) kind o size name ∷ rs) (next + 1)
added-tree rs next kind o size name t few small owner =
    record {
      forest = forest-new rs (record { 0 = next }) kind o size name t.forest (fresh next rs t.fit) owner;
      fit = (omega arith, small, fit-more next rs t.fit);
      few = omega (arith, few);
    }

pub numbered-tree : (rs : List Row) (next : ℕ) → IsTree rs next → IsTree rs (next + 1)
numbered-tree rs next t = record { forest = t.forest; fit = fit-more next rs t.fit; few = t.few }

-- ---- a row that is changed in its place

-- a change that leaves the number and the owner, and leaves the size small
pub record Mends (f : Row → Row) : Type 0 where
  pub place : KeepsPlace f
  pub size : (r : Row) → r.size < size_limit → (f r).size < size_limit

fit-changed : (f : Row → Row) (next : ℕ) (rs : List Row) (x : Obj) → ((r : Row) → (f r).serial ≡ r.serial) → ((r : Row) → r.size < size_limit → (f r).size < size_limit) → AllFit next rs → AllFit next (changed f rs x)
fit-changed f next [] x k s h = tt
fit-changed f next (r ∷ rs) x k s h = by_test (same r.serial x)
    (λ t. rw t (let l : r.serial.0 < next = h.0 in rw (k r) l, s r h.1, h.2))
    (λ t. rw t (h.0, h.1, fit-changed f next rs x k s h.2))

pub length-changed : (f : Row → Row) (rs : List Row) (x : Obj) → length (changed f rs x) ≡ length rs
length-changed f [] x = refl
length-changed f (r ∷ rs) x = let ih = length-changed f rs x in by_test (same r.serial x) (λ t. rw t refl) (λ t. rw t (omega (arith, ih)))

pub changed-tree : (f : Row → Row) (rs : List Row) (next : ℕ) (x : Obj) → Mends f → IsTree rs next → IsTree (changed f rs x) next
changed-tree f rs next x m t = record {
  forest = forest-changed f rs x m.place t.forest;
  fit = fit-changed f next rs x m.place.serial m.size t.fit;
  few = (let l = length-changed f rs x in omega (arith, l, t.few));
}

pub left-tree : (rs : List Row) (next : ℕ) (x : Obj) → IsTree rs next → IsTree (changed left_row rs x) next
left-tree rs next x t = record {
  forest = forest-left rs x t.forest;
  fit = fit-changed left_row next rs x (λ r. refl) (λ r l. l) t.fit;
  few = (let l = length-changed left_row rs x in omega (arith, l, t.few));
}

-- ---- a row that goes, or goes to another owner

fit-without : (next : ℕ) (rs : List Row) (x : Obj) → AllFit next rs → AllFit next (without rs x)
fit-without next [] x f = tt
fit-without next (r ∷ rs) x f = by_test (same r.serial x) (λ t. rw t f.2) (λ t. rw t (f.0, f.1, fit-without next rs x f.2))

pub fit-row : (next : ℕ) (rs : List Row) (x : Obj) (r : Row) → AllFit next rs → row_of rs x ≡ Some r → (r.serial.0 < next) × (r.size < size_limit)
fit-row next [] x r f e = cc
fit-row next (s ∷ rs) x r f e = by_test (same s.serial x)
    (λ t. let e' : Some s ≡ Some r = rw t at e in let e'' : s ≡ r = cc in rw (sym e'') (f.0, f.1))
    (λ t. let e' : row_of rs x ≡ Some r = rw t at e in fit-row next rs x r f.2 e')

-- a row's number is below the next one
pub numbered-below : (next : ℕ) (rs : List Row) (x : Obj) (r : Row) → AllFit next rs → row_of rs x ≡ Some r → x.0 < next
numbered-below next rs x r f e = let l = (fit-row next rs x r f e).0 in let s : r.serial.0 ≡ x.0 = ap (λ (z : Obj). z.0) (row_of-serial rs x r e) in omega (arith, l, s)

pub length-without : (rs : List Row) (x : Obj) (r : Row) → row_of rs x ≡ Some r → length rs ≡ length (without rs x) + 1
length-without [] x r e = cc
length-without (s ∷ rs) x r e = by_test (same s.serial x)
    (λ t. rw t (omega arith))
    (λ t. let e' : row_of rs x ≡ Some r = rw t at e in let ih = length-without rs x r e' in rw t (omega (arith, ih)))

shorter : (rs : List Row) (x : Obj) → (o : Option Row) → row_of rs x ≡ o → length (without rs x) ≤ length rs
shorter rs x (Some r) e = let l = length-without rs x r e in omega (arith, l)
shorter rs x None e = none rs e
  where
    none : (rs : List Row) → row_of rs x ≡ None → length (without rs x) ≤ length rs
    none [] e = omega arith
    none (s ∷ rs) e = by_test (same s.serial x)
        (λ t. rw t (omega arith))
        (λ t. let e' : row_of rs x ≡ None = rw t at e in let ih = none rs e' in rw t (omega (arith, ih)))

pub without-tree : (rs : List Row) (next : ℕ) (x : Obj) → IsTree rs next → first_kid rs (Of x) ≡ None → IsTree (without rs x) next
without-tree rs next x t alone = record {
  forest = forest-without rs x t.forest alone;
  fit = fit-without next rs x t.fit;
  few = (let l = shorter rs x (row_of rs x) refl in omega (arith, l, t.few));
}

pub placed-tree : (p : Pool) (o : Owner) (x : Obj) (r : Row) → IsTree p.rows p.next → row_of p.rows x ≡ Some r → is_owner p.rows o ≡ true → is_inside p.rows o (Of x) ≡ false
    → IsTree (record r { owner = Some o } ∷ without p.rows x) p.next
placed-tree p o x r t e owner apart =
    let rows : (place p o x).rows ≡ record r { owner = Some o } ∷ without p.rows x = rw e refl in
    let f = fit-row p.next p.rows x r t.fit e in
    let l = length-without p.rows x r e in
    record {
      forest = rw rows at (forest-placed p o x r t.forest e owner apart);
      fit = (f.0, f.1, fit-without p.next p.rows x t.fit);
      few = omega (arith, l, t.few);
    }
