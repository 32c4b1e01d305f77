-- Limits and sums, where a row is new or is changed.
use Rattle.std.proofs.Common.{◌≡◌, ◌≢◌, ℕ, ◌<◌, List, [], ◌∷◌, Option, Some, None, true, false, if◌then◌else◌, refl, sym, ◌∙◌, ap, subst, arith}
use Rattle.tree_specs.specs.declared.object.Obj.{Obj}
use Rattle.tree_specs.specs.declared.object.Owner.TheVariants.{Of}
use Rattle.tree_specs.specs.declared.row.Row.{Row}
use Rattle.tree_specs.specs.Words.Objects.{same}
use Rattle.tree_specs.specs.Calls.Refusals.{is_plain_row}
use Rattle.tree_specs.specs.Tree.Pool.{row_of, is_row, owner_in, owner_of, changed, without, left_row, sized_row, limited_row}
use Rattle.tree_specs.specs.Tree.Forest.{Distinct}
use Rattle.tree_specs.specs.Tree.Sums.{charge, sum_inside, limit_in, limit_at, size_at}
use Rattle.tree_specs.proofs.Tree.Numbered.{by_test, same-equal, same-false, same-true}
use Rattle.tree_specs.proofs.Tree.Attached.{weight-same}
use Rattle.tree_specs.proofs.Tree.SumLaws.{changed-weights, sum-gone}
use Rattle.memory_limits.specs.declared.limited.Limited.{Limited}
use Rattle.memory_limits.specs.Limits.{limit_of, unlimited, AllBound, AllSums, AreLimitsOf}
use Rattle.memory_limits.proofs.Kept.{same-sums}
use Rattle.object_pool.specs.Counting.{WasAdded}
use Rattle.memory_limits.proofs.Gone.{others-same}

-- ---- a row is changed

-- what a change leaves of a row it leaves of all of them
pub field-changed : {A : Type 0} (g : Option Row → A) (f : Row → Row) (rs : List Row) (x y : Obj) → ((r : Row) → (f r).serial ≡ r.serial) → ((r : Row) → g (Some (f r)) ≡ g (Some r)) → g (row_of (changed f rs x) y) ≡ g (row_of rs y)
field-changed g f [] x y k h = refl
field-changed g f (r ∷ rs) x y k h = by_test (same r.serial x)
    (λ t. by_test (same r.serial y)
    (λ u. let v : same (f r).serial y ≡ true = ap (λ (z : Obj). same z y) (k r) ∙ u in rw (t, u, v) (h r))
    (λ u. let v : same (f r).serial y ≡ false = ap (λ (z : Obj). same z y) (k r) ∙ u in rw (t, u, v) refl))
    (λ t. by_test (same r.serial y) (λ u. rw (t, u) refl) (λ u. rw (t, u) (field-changed g f rs x y k h)))

-- a change that leaves owners and weights leaves the sums
changed-sums : (f : Row → Row) (ls : List Limited) (rs : List Row) (x : Obj) → ((r : Row) → (f r).serial ≡ r.serial) → ((r : Row) → (f r).owner ≡ r.owner) → ((r : Row) → charge (f r) ≡ charge r) → AllSums ls rs → AllSums ls (changed f rs x)
changed-sums f ls rs x k o w s = same-sums rs (changed f rs x) (λ y. weight-same charge rs (changed f rs x) (λ z. field-changed owner_in f rs x z k o) (λ h. changed-weights charge f rs x k w h) y) ls s

-- and one that leaves the limits too leaves all that is kept
pub changed-kept : (f : Row → Row) (ls : List Limited) (rs : List Row) (x : Obj) → ((r : Row) → (f r).serial ≡ r.serial) → ((r : Row) → (f r).owner ≡ r.owner) → ((r : Row) → charge (f r) ≡ charge r) → ((r : Row) → (f r).limit ≡ r.limit)
    → AreLimitsOf ls rs → AreLimitsOf ls (changed f rs x)
changed-kept f ls rs x k o w l a = record {
  limits = λ y. a.limits y ∙ sym (field-changed limit_in f rs x y k l);
  bound = a.bound;
  sums = changed-sums f ls rs x k o w a.sums;
}

-- ---- another size

sized-twice : (rs : List Row) (x : Obj) (size n : ℕ) → changed (sized_row n) (changed (sized_row size) rs x) x ≡ changed (sized_row n) rs x
sized-twice [] x size n = refl
sized-twice (r ∷ rs) x size n = by_test (same r.serial x)
    (λ t. let a : changed (sized_row size) (r ∷ rs) x ≡ sized_row size r ∷ rs = rw t refl in
    let b : changed (sized_row n) (sized_row size r ∷ rs) x ≡ sized_row n r ∷ rs = rw t refl in
    let c : changed (sized_row n) (r ∷ rs) x ≡ sized_row n r ∷ rs = rw t refl in
    ap (λ (qs : List Row). changed (sized_row n) qs x) a ∙ b ∙ sym c)
    (λ t. let a : changed (sized_row size) (r ∷ rs) x ≡ r ∷ changed (sized_row size) rs x = rw t refl in
    let b : changed (sized_row n) (r ∷ changed (sized_row size) rs x) x ≡ r ∷ changed (sized_row n) (changed (sized_row size) rs x) x = rw t refl in
    let c : changed (sized_row n) (r ∷ rs) x ≡ r ∷ changed (sized_row n) rs x = rw t refl in
    ap (λ (qs : List Row). changed (sized_row n) qs x) a ∙ b ∙ ap (λ (qs : List Row). r ∷ qs) (sized-twice rs x size n) ∙ sym c)

sized-same : (rs : List Row) (x : Obj) → changed (sized_row (size_at rs x)) rs x ≡ rs
sized-same [] x = refl
sized-same (r ∷ rs) x = by_test (same r.serial x)
    (λ t. let n : size_at (r ∷ rs) x ≡ r.size = rw t refl in
    let e : changed (sized_row r.size) (r ∷ rs) x ≡ r ∷ rs = rw t refl in
    ap (λ (k : ℕ). changed (sized_row k) (r ∷ rs) x) n ∙ e)
    (λ t. let n : size_at (r ∷ rs) x ≡ size_at rs x = rw t refl in
    let e : changed (sized_row (size_at rs x)) (r ∷ rs) x ≡ r ∷ changed (sized_row (size_at rs x)) rs x = rw t refl in
    ap (λ (k : ℕ). changed (sized_row k) (r ∷ rs) x) n ∙ e ∙ ap (λ (qs : List Row). r ∷ qs) (sized-same rs x))

-- with the size that it had the rows are those that there were
pub sized-back : (rs : List Row) (x : Obj) (size : ℕ) → changed (sized_row (size_at rs x)) (changed (sized_row size) rs x) x ≡ rs
sized-back rs x size = sized-twice rs x size (size_at rs x) ∙ sized-same rs x

pub sized-plain : (rs : List Row) (x : Obj) (size : ℕ) → is_plain_row (row_of rs x) ≡ true → is_plain_row (row_of (changed (sized_row size) rs x) x) ≡ true
sized-plain rs x size plain = field-changed is_plain_row (sized_row size) rs x x (λ r. refl) (λ r. refl) ∙ plain

pub sized-limits : (rs : List Row) (x : Obj) (size : ℕ) (y : Obj) → limit_at (changed (sized_row size) rs x) y ≡ limit_at rs y
sized-limits rs x size y = field-changed limit_in (sized_row size) rs x y (λ r. refl) (λ r. refl)

-- ---- another limit

pub limited-sums : (ls : List Limited) (rs : List Row) (x : Obj) (max : ℕ) → AllSums ls rs → AllSums ls (changed (limited_row max) rs x)
limited-sums ls rs x max s = changed-sums (limited_row max) ls rs x (λ r. refl) (λ r. refl) (λ r. refl) s

limit-set : (rs : List Row) (x y : Obj) (max : ℕ) → is_row rs x ≡ true → limit_at (changed (limited_row max) rs x) y ≡ (if same x y then max else limit_at rs y)
limit-set [] x y max is = let bad : false ≡ true = is in cc
limit-set (r ∷ rs) x y max is = by_test (same r.serial x)
    (λ t. let o : r.serial ≡ x = same-true r.serial x t in
    by_test (same x y)
    (λ u. let v : same r.serial y ≡ true = ap (λ (z : Obj). same z y) o ∙ u in rw (t, u, v) refl)
    (λ u. let v : same r.serial y ≡ false = ap (λ (z : Obj). same z y) o ∙ u in rw (t, u, v) refl))
    (λ t. let is' : is_row rs x ≡ true = rw t at is in
    by_test (same r.serial y)
    (λ v. let o : r.serial ≡ y = same-true r.serial y v in
    let u : same x y ≡ false = same-false x y (λ q. let w : same r.serial x ≡ true = same-equal r.serial x (o ∙ sym q) in let bad : true ≡ false = sym w ∙ t in cc) in rw (t, u, v) refl)
    (λ v. rw (t, v) (limit-set rs x y max is')))

pub limited-kept : (ls ls' : List Limited) (rs : List Row) (x : Obj) (max : ℕ) → is_row rs x ≡ true → ((y : Obj) → limit_of ls' y ≡ (if same x y then max else limit_of ls y)) → (AllBound ls → AllBound ls') → AllSums ls' (changed (limited_row max) rs x) → AreLimitsOf ls rs
    → AreLimitsOf ls' (changed (limited_row max) rs x)
limited-kept ls ls' rs x max is l b s a = record {
  limits = λ y. l y ∙ ap (λ (n : ℕ). if same x y then max else n) (a.limits y) ∙ sym (limit-set rs x y max is);
  bound = b a.bound;
  sums = s;
}

-- ---- a new row

-- who has no limit isn't among those that have one
absent : (ls : List Limited) (x : Obj) → limit_of ls x ≡ 0 → AllBound ls → unlimited ls x ≡ ls
absent [] x e b = refl
absent (l ∷ ls) x e b = by_test (same l.object x)
    (λ t. let z : l.limit ≡ 0 = rw t at e in let p : 0 < l.limit = b.0 in absurd (omega (arith, z, p)))
    (λ t. let e' : limit_of ls x ≡ 0 = rw t at e in rw t (ap (λ (ks : List Limited). l ∷ ks) (absent ls x e' b.1)))

-- it counts nothing as long as it has no owner
pub new-sums : (x : Obj) (ls : List Limited) (rs' : List Row) → Distinct rs' → WasAdded x ls rs' → AllSums ls (changed left_row rs' x)
new-sums x ls rs' d a = rw (a.are, sym a.number) (subst (λ (ks : List Limited). AllSums ks (changed left_row (a.row ∷ a.rows) a.row.serial)) (absent ls a.row.serial none a.were.bound) kept)
  where
    distinct : Distinct (a.row ∷ a.rows)
    distinct = rw a.are at d

    self : same a.row.serial a.row.serial ≡ true
    self = same-equal a.row.serial a.row.serial refl

    none : limit_of ls a.row.serial ≡ 0
    none = a.were.limits a.row.serial ∙ ap limit_in distinct.0

    left : changed left_row (a.row ∷ a.rows) a.row.serial ≡ left_row a.row ∷ a.rows
    left = rw self refl

    others : (y : Obj) → a.row.serial ≢ y → sum_inside (left_row a.row ∷ a.rows) (Of y) ≡ sum_inside a.rows (Of y)
    others y ne =
        let is : row_of (left_row a.row ∷ a.rows) a.row.serial ≡ Some (left_row a.row) = rw self refl in
        let lone : owner_of (left_row a.row ∷ a.rows) a.row.serial ≡ None = rw self refl in
        let gone : without (left_row a.row ∷ a.rows) a.row.serial ≡ a.rows = rw self refl in
        sym (sum-gone (left_row a.row ∷ a.rows) a.row.serial (left_row a.row) distinct is lone y ne) ∙ ap (λ (qs : List Row). sum_inside qs (Of y)) gone

    kept : AllSums (unlimited ls a.row.serial) (changed left_row (a.row ∷ a.rows) a.row.serial)
    kept = rw left (others-same ls a.rows (left_row a.row ∷ a.rows) a.row.serial others a.were.sums)

-- and has no limit
pub new-limits : (x : Obj) (ls : List Limited) (rs' : List Row) → Distinct rs' → (a : WasAdded x ls rs') → (y : Obj) → limit_at rs' y ≡ limit_at a.rows y
new-limits x ls rs' d a y = rw a.are (by_test (same a.row.serial y)
    (λ t. let o : a.row.serial ≡ y = same-true a.row.serial y t in
    let none : limit_at a.rows y ≡ 0 = subst (λ (v : Obj). limit_at a.rows v ≡ 0) o (ap limit_in distinct.0) in
    let unlimited : a.row.limit ≡ 0 = a.unlimited in rw (t, none, unlimited) refl)
    (λ t. rw t refl))
  where
    distinct : Distinct (a.row ∷ a.rows)
    distinct = rw a.are at d
