-- The sums stay those of what is inside, where it is told what has changed.
use Rattle.std.proofs.Common.{◌≡◌, ℕ, zero, suc, ◌+◌, ◌<◌, ◌≤◌, List, [], ◌∷◌, map, Option, Some, None, Ok, Err, true, false, ◌&&◌, nat_lt, if◌then◌else◌, refl, sym, ◌∙◌, ap, arith}
use Rattle.tree_specs.specs.declared.kind.Kind.{Kind}
use Rattle.tree_specs.specs.declared.kind.Kind.TheVariants.{Plain}
use Rattle.tree_specs.specs.declared.object.Obj.{Obj}
use Rattle.tree_specs.specs.declared.object.Owner.{Owner}
use Rattle.tree_specs.specs.declared.object.Owner.TheVariants.{Root, Of}
use Rattle.tree_specs.specs.declared.row.Row.{Row}
use Rattle.tree_specs.specs.Tree.Pool.{row_of, is_row, owner_of, is_inside, changed, left_row, owned_row, sized_row}
use Rattle.tree_specs.specs.Tree.Sums.{sum_inside, limit_at, size_at}
use Rattle.tree_specs.specs.Tree.Forest.{Rooted}
use Rattle.tree_specs.specs.Words.Objects.{same}
use Rattle.tree_specs.specs.Tree.Targets.{is_reference}
use Rattle.tree_specs.specs.Calls.Refusals.{is_plain, is_plain_row, checked, refuse_if, over, fits_in}
use Rattle.tree_specs.specs.declared.reply.Refusal.TheVariants.{OverLimit}
use Rattle.std.specs.List.{AllByRecursion}
use Rattle.tree_specs.proofs.Tree.Numbered.{by_test, same-true, same-false, same-equal}
use Rattle.tree_specs.proofs.Tree.SumLaws.{sum-anywhere, sum-below, sum-lone, sum-before, sum-sized}
use Rattle.tree_links.specs.Links.{IsTree}
use Rattle.tree_links.proofs.Weighing.{sum-small}
use Rattle.memory_limits.specs.declared.change.Change.{Change}
use Rattle.memory_limits.specs.declared.limited.Limited.{Limited}
use Rattle.memory_limits.specs.Limits.{limit_of, unlimited, bound_of, SameBounds, AllBound, AllSums, IsKeptSum, AreLimitsOf, counts, found}

-- so many bytes come, or go
abbrev pub come : ℕ → Change
come n = record { less = 0; more = n }

abbrev pub go : ℕ → Change
go n = record { less = n; more = 0 }

-- a change that says for each sum what it becomes
changes : (f : Limited → Limited) (rs rs' : List Row) → ((l : Limited) → l.sum ≡ sum_inside rs (Of l.object) → (f l).sum ≡ sum_inside rs' (Of (f l).object)) → (ls : List Limited) → AllSums ls rs → AllSums (map f ls) rs'
changes f rs rs' h [] s = tt
changes f rs rs' h (l ∷ ls) s = (h l s.0, changes f rs rs' h ls s.1)

pub same-sums : (rs rs' : List Row) → ((y : Owner) → sum_inside rs' y ≡ sum_inside rs y) → (ls : List Limited) → AllSums ls rs → AllSums ls rs'
same-sums rs rs' h [] s = tt
same-sums rs rs' h (l ∷ ls) s = (s.0 ∙ sym (h (Of l.object)), same-sums rs rs' h ls s.1)

pub joins : (rs : List Row) (next : ℕ) (x : Obj) (o : Owner) (ls : List Limited) → IsTree rs next → owner_of rs x ≡ Some o → AllSums ls (changed left_row rs x) → AllSums (map (counts (come (sum_inside rs (Of x))) rs o) ls) rs
joins rs next x o ls t below s = changes (counts (come (sum_inside rs (Of x))) rs o) (changed left_row rs x) rs one ls s
  where
    one : (l : Limited) → l.sum ≡ sum_inside (changed left_row rs x) (Of l.object) → (counts (come (sum_inside rs (Of x))) rs o l).sum ≡ sum_inside rs (Of (counts (come (sum_inside rs (Of x))) rs o l).object)
    one l e =
        let b = sum-below rs x o t.forest.rooted below (Of l.object) in
        let small = sum-small rs next (Of l.object) t in
        by_test (is_inside rs o (Of l.object))
        (λ u. let b' = rw u at b in rw u (omega (arith, e, b', small)))
        (λ u. let b' = rw u at b in rw u (omega (arith, e, b')))

pub settles : (rs : List Row) (x : Obj) (ls : List Limited) → owner_of rs x ≡ None → AllSums ls (changed left_row rs x) → AllSums ls rs
settles rs x ls lone s = same-sums (changed left_row rs x) rs (λ y. sum-lone rs x lone y) ls s

-- what is inside counts no more where something has left
left-least : (rs : List Row) (x : Obj) (y : Owner) → Rooted rs → sum_inside (changed left_row rs x) y ≤ sum_inside rs y
left-least rs x y rooted = each (owner_of rs x) refl
  where
    each : (o : Option Owner) → owner_of rs x ≡ o → sum_inside (changed left_row rs x) y ≤ sum_inside rs y
    each None e = let b = sum-lone rs x e y in omega (arith, b)
    each (Some o) e = let b = sum-below rs x o rooted e y in omega (arith, b)

pub leaves : (rs : List Row) (next : ℕ) (x : Obj) (from : Owner) (ls : List Limited) → IsTree rs next → is_row rs x ≡ true → is_inside rs from (Of x) ≡ false → AllSums ls (changed (owned_row from) rs x)
    → AllSums (map (counts (go (sum_inside rs (Of x))) rs from) ls) (changed left_row rs x)
leaves rs next x from ls t is out s = each (row_of rs x) refl
  where
    one : (r : Row) → row_of rs x ≡ Some r → (l : Limited) → l.sum ≡ sum_inside (changed (owned_row from) rs x) (Of l.object)
        → (counts (go (sum_inside rs (Of x))) rs from l).sum ≡ sum_inside (changed left_row rs x) (Of (counts (go (sum_inside rs (Of x))) rs from l).object)
    one r there l e =
        let b = sum-before rs x r from t.forest.rooted there out (Of l.object) in
        let small = sum-small rs next (Of l.object) t in
        let least = left-least rs x (Of l.object) t.forest.rooted in
        by_test (is_inside rs from (Of l.object))
        (λ u. let b' = rw u at b in rw u (omega (arith, e, b', small, least)))
        (λ u. let b' = rw u at b in rw u (omega (arith, e, b')))

    each : (q : Option Row) → row_of rs x ≡ q → AllSums (map (counts (go (sum_inside rs (Of x))) rs from) ls) (changed left_row rs x)
    each None e = let bad : false ≡ true = rw e at is in cc
    each (Some r) e = changes (counts (go (sum_inside rs (Of x))) rs from) (changed (owned_row from) rs x) (changed left_row rs x) (one r e) ls s

-- ---- an object that is looked for

abbrev pub limit-by : Option Limited → ℕ
limit-by None = 0
limit-by (Some l) = l.limit

pub limit-looked : (ls : List Limited) (x : Obj) → limit_of ls x ≡ limit-by (found ls x)
limit-looked [] x = refl
limit-looked (l ∷ ls) x = by_test (same l.object x) (λ t. rw t refl) (λ t. rw t (limit-looked ls x))

pub sum-found : (ls : List Limited) (rs : List Row) (x : Obj) (l : Limited) → AllSums ls rs → found ls x ≡ Some l → l.sum ≡ sum_inside rs (Of x)
sum-found [] rs x l s e = cc
sum-found (k ∷ ls) rs x l s e = by_test (same k.object x)
    (λ t. let e' : Some k ≡ Some l = rw t at e in let e'' : k ≡ l = cc in let o : k.object ≡ x = same-true k.object x t in sym (ap (λ (z : Limited). z.sum) e'') ∙ s.0 ∙ ap (λ (z : Obj). sum_inside rs (Of z)) o)
    (λ t. let e' : found ls x ≡ Some l = rw t at e in sum-found ls rs x l s.1 e')

pub all-kept : (ls : List Limited) (rs : List Row) (x : Obj) → AllSums ls rs → IsKeptSum ls rs x
all-kept ls rs x s = λ l e. sum-found ls rs x l s e

-- an object's own sum is right where it has left, and where it is yet to leave an owner that isn't inside it
pub kept-left : (ls : List Limited) (rs : List Row) (next : ℕ) (x : Obj) → IsTree rs next → AllSums ls (changed left_row rs x) → IsKeptSum ls rs x
kept-left ls rs next x t s = λ l e. sum-found ls (changed left_row rs x) x l s e ∙ sym (sum-anywhere rs x t.forest.rooted)

pub kept-before : (ls : List Limited) (rs : List Row) (next : ℕ) (x : Obj) (from : Owner) → IsTree rs next → is_row rs x ≡ true → is_inside rs from (Of x) ≡ false → AllSums ls (changed (owned_row from) rs x) → IsKeptSum ls rs x
kept-before ls rs next x from t is out s = each (row_of rs x) refl
  where
    each : (q : Option Row) → row_of rs x ≡ q → IsKeptSum ls rs x
    each None e = let bad : false ≡ true = rw e at is in cc
    each (Some r) there = λ l e.
        let b = rw out at (sum-before rs x r from t.forest.rooted there out (Of x)) in
        let own = sum-anywhere rs x t.forest.rooted in
        omega (arith, sum-found ls (changed (owned_row from) rs x) x l s e, b, own)

-- ---- an object without a limit

-- what holds of all holds of all others
pub all-unlimited : (P : Limited → Type 0) (ls : List Limited) (x : Obj) → AllByRecursion P ls → AllByRecursion P (unlimited ls x)
all-unlimited P [] x s = tt
all-unlimited P (l ∷ ls) x s = let ih = all-unlimited P ls x s.1 in by_test (same l.object x) (λ t. rw t ih) (λ t. rw t (s.0, ih))

pub limit-unlimited : (ls : List Limited) (x y : Obj) → limit_of (unlimited ls x) y ≡ (if same x y then 0 else limit_of ls y)
limit-unlimited [] x y = by_test (same x y) (λ t. rw t refl) (λ t. rw t refl)
limit-unlimited (l ∷ ls) x y =
    let ih = limit-unlimited ls x y in
    by_test (same l.object x)
    (λ t. let o : l.object ≡ x = same-true l.object x t in
    by_test (same x y)
    (λ u. let ih' = rw u at ih in rw (t, u) ih')
    (λ u. let ih' = rw u at ih in let v : same l.object y ≡ false = ap (λ (z : Obj). same z y) o ∙ u in rw (t, u, v) ih'))
    (λ t. by_test (same l.object y)
    (λ v. let o : l.object ≡ y = same-true l.object y v in let u : same x y ≡ false = flip x y (sym (ap (λ (z : Obj). same z x) o) ∙ t) in rw (t, u, v) refl)
    (λ v. rw (t, v) ih))
  where
    flip : (x y : Obj) → same y x ≡ false → same x y ≡ false
    flip x y e = same-false x y (λ q. let u : same y x ≡ true = same-equal y x (sym q) in let bad : true ≡ false = sym u ∙ e in cc)

-- ---- no limits at all

pub unlimited-fits : (n : ℕ) (rs : List Row) (wanted : ℕ) (o : Option Owner) → ((x : Obj) → 0 ≡ limit_at rs x) → fits_in n rs wanted o ≡ []
unlimited-fits n rs wanted None h = refl
unlimited-fits n rs wanted (Some Root) h = refl
unlimited-fits zero rs wanted (Some (Of x)) h = refl
unlimited-fits (suc n) rs wanted (Some (Of x)) h = rw (sym (h x)) (unlimited-fits n rs wanted (owner_of rs x) h)

-- ---- another size

pub sizes : (rs : List Row) (next : ℕ) (x : Obj) (r : Row) (before : ℕ) (ls : List Limited) → IsTree rs next → row_of rs x ≡ Some r → is_reference r.kind ≡ false → AllSums ls (changed (sized_row before) rs x)
    → AllSums (map (counts (record { less = before; more = r.size }) rs (Of x)) ls) rs
sizes rs next x r before ls t is object s = changes (counts (record { less = before; more = r.size }) rs (Of x)) (changed (sized_row before) rs x) rs one ls s
  where
    one : (l : Limited) → l.sum ≡ sum_inside (changed (sized_row before) rs x) (Of l.object)
        → (counts (record { less = before; more = r.size }) rs (Of x) l).sum ≡ sum_inside rs (Of (counts (record { less = before; more = r.size }) rs (Of x) l).object)
    one l e =
        let both = sum-sized rs x r before is object (Of l.object) in
        let b = both.0 in
        let least = both.1 in
        let small = sum-small rs next (Of l.object) t in
        by_test (is_inside rs (Of x) (Of l.object))
        (λ u. let b' = rw u at b in let least' = rw u at least in rw u (omega (arith, e, b', least', small)))
        (λ u. let b' = rw u at b in rw u (omega (arith, e, b')))

-- ---- a limit that is looked at

pub over-unlimited : (rs : List Row) (wanted : ℕ) (x : Obj) → limit_at rs x ≡ 0 → checked (over rs wanted x) ≡ Ok tt
over-unlimited rs wanted x none = rw none refl

pub over-none : (ls : List Limited) (rs : List Row) (wanted : ℕ) (x : Obj) → AreLimitsOf ls rs → found ls x ≡ None → checked (over rs wanted x) ≡ Ok tt
over-none ls rs wanted x are e = over-unlimited rs wanted x (sym (are.limits x) ∙ limit-looked ls x ∙ ap limit-by e)

over-found : (ls : List Limited) (rs : List Row) (wanted : ℕ) (x : Obj) (l : Limited) → AreLimitsOf ls rs → found ls x ≡ Some l
    → over rs wanted x ≡ refuse_if (nat_lt 0 l.limit && nat_lt l.limit (l.sum + wanted)) (OverLimit x l.sum wanted (limit_at rs x))
over-found ls rs wanted x l are e =
    let limit : limit_at rs x ≡ l.limit = sym (are.limits x) ∙ limit-looked ls x ∙ ap limit-by e in
    let sum : sum_inside rs (Of x) ≡ l.sum = sym (sum-found ls rs x l are.sums e) in
    ap (λ (m : ℕ). refuse_if (nat_lt 0 m && nat_lt m (sum_inside rs (Of x) + wanted)) (OverLimit x (sum_inside rs (Of x)) wanted (limit_at rs x))) limit
    ∙ ap (λ (s : ℕ). refuse_if (nat_lt 0 l.limit && nat_lt l.limit (s + wanted)) (OverLimit x s wanted (limit_at rs x))) sum

pub over-lacks : (ls : List Limited) (rs : List Row) (wanted : ℕ) (x : Obj) (l : Limited) → AreLimitsOf ls rs → found ls x ≡ Some l → (nat_lt 0 l.limit && nat_lt l.limit (l.sum + wanted)) ≡ true
    → checked (over rs wanted x) ≡ Err (OverLimit x l.sum wanted (limit_at rs x))
over-lacks ls rs wanted x l are e t = ap checked (over-found ls rs wanted x l are e) ∙ rw t refl

pub over-fits : (ls : List Limited) (rs : List Row) (wanted : ℕ) (x : Obj) (l : Limited) → AreLimitsOf ls rs → found ls x ≡ Some l → (nat_lt 0 l.limit && nat_lt l.limit (l.sum + wanted)) ≡ false
    → checked (over rs wanted x) ≡ Ok tt
over-fits ls rs wanted x l are e t = ap checked (over-found ls rs wanted x l are e) ∙ rw t refl

-- what is plain is no reference
plain-object : (k : Kind) → is_plain k ≡ true → is_reference k ≡ false
plain-object Plain e = refl
plain-object _ e = cc

pub resizes : (rs : List Row) (next : ℕ) (x : Obj) (before : ℕ) (ls : List Limited) → IsTree rs next → is_plain_row (row_of rs x) ≡ true → AllSums ls (changed (sized_row before) rs x)
    → AllSums (map (counts (record { less = before; more = size_at rs x }) rs (Of x)) ls) rs
resizes rs next x before ls t plain s = each (row_of rs x) refl
  where
    each : (q : Option Row) → row_of rs x ≡ q → AllSums (map (counts (record { less = before; more = size_at rs x }) rs (Of x)) ls) rs
    each None e = let bad : false ≡ true = rw e at plain in cc
    each (Some r) e =
        let p : is_plain r.kind ≡ true = rw e at plain in
        let object : is_reference r.kind ≡ false = plain-object r.kind p in
        let size : size_at rs x ≡ r.size = rw e refl in
        rw size (sizes rs next x r before ls t e object s)

-- ---- the limits stay

bounds-changed : (f : Limited → Limited) → ((l : Limited) → bound_of (f l) ≡ bound_of l) → (ls : List Limited) → SameBounds ls (map f ls)
bounds-changed f h [] = refl
bounds-changed f h (l ∷ ls) = ap (λ (b : Obj × ℕ). b ∷ map bound_of (map f ls)) (h l) ∙ ap (λ (bs : List (Obj × ℕ)). bound_of l ∷ bs) (bounds-changed f h ls)

counts-bound : (change : Change) (rs : List Row) (o : Owner) (l : Limited) → bound_of (counts change rs o l) ≡ bound_of l
counts-bound change rs o l = by_test (is_inside rs o (Of l.object)) (λ t. rw t refl) (λ t. rw t refl)

pub bounds-counted : (change : Change) (rs : List Row) (o : Owner) (ls ls' : List Limited) → ls' ≡ map (counts change rs o) ls → SameBounds ls ls'
bounds-counted change rs o ls ls' are = ap (map bound_of) are ∙ bounds-changed (counts change rs o) (counts-bound change rs o) ls

pub bound-unlimited : (ls : List Limited) (x : Obj) → AllBound ls → AllBound (unlimited ls x)
bound-unlimited ls x b = all-unlimited (λ l. 0 < l.limit) ls x b
