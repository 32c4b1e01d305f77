-- The list of the limits against the map of what is kept.
use Rattle.std.proofs.Common.{◌≡◌, ℕ, ◌<◌, ◌≤◌, Bool, true, false, length, ◌&&◌, nat_eq, if◌then◌else◌, List, [], ◌∷◌, map as each, Option, Some, None, is_some, refl, sym, ap, subst, ◌∙◌, arith, T}
use Rattle.std.specs.List.{AllByRecursion}
use Rattle.std.specs.Option.{option_map}
use Rattle.std.specs.Ordering.{nat_cmp, is_lt, is_eq}
use Rattle.std.specs.declared.cmp.Ordering.{Ordering}
use Rattle.std.specs.declared.cmp.Ordering.TheVariants.{Less, Equal, Greater}
use Rattle.std.proofs.lemmas.Cmp.{nat_cmp_total}
use Rattle.std.proofs.lemmas.Bool.{eqb-true, eq-eqb}
use Rattle.std.specs.FinMap as map
use Rattle.std.specs.FinMap.{nat_cmp-IsAntisymmetric, get-entries, get-insert, entries_sorted, entries-insert, len-entries, len-empty}
use Rattle.std.specs.FinMap.Entries.{find, put, where_key, is_sorted, below_all}
use Rattle.pool_arena.proofs.Entries.{others, entries-removed}
use Rattle.pool_arena.proofs.Keeps.{ties, eqb-false}
use Rattle.tree_specs.specs.declared.object.Obj.{Obj}
use Rattle.tree_specs.specs.Words.Objects.{same}
use Rattle.tree_specs.proofs.Tree.Numbered.{by_test}
use Rattle.memory_limits.specs.declared.allowance.Allowance.{Allowance}
use Rattle.memory_limits.specs.declared.change.Change.{Change}
use Rattle.memory_limits.specs.declared.limited.Limited.{Limited}
use Rattle.memory_limits.proofs.Climbing.{not-found}
use Rattle.memory_limits.proofs.Kept.{limit-by, limit-looked, limit-unlimited}
use Rattle.memory_limits.specs.Limits.{found, limited_at, listed, limit_of, unlimited, summed, counts_at}

abbrev Entries : Type 0
Entries = List (ℕ × Allowance)

abbrev listing : Entries → List Limited
listing es = each (λ e. limited_at e.0 e.1) es

both : (a b : Bool) → T (a && b) → T a × T b
both true b p = (tt, p)
both false b p = absurd p

lower : (k q : ℕ) → T (is_lt (nat_cmp k q)) → k < q
lower k q h = grind (arith)

-- ---- looking up

found-entry : (x : Obj) (es : Entries) → found (listing es) x ≡ option_map (limited_at x.0) (find nat_cmp x.0 es)
found-entry x [] = refl
found-entry x (e ∷ es) =
    let tie = ties x.0 e.0 in
    by_test (nat_eq e.0 x.0)
    (λ t. let k : e.0 ≡ x.0 = eqb-true e.0 x.0 t in rw (tie, t) (ap (λ (n : ℕ). Some (limited_at n e.1)) k))
    (λ t. rw (tie, t) (found-entry x es))

pub found-get : (m : map.FinMap nat_cmp Allowance) (x : Obj) → found (listed m) x ≡ option_map (limited_at x.0) (map.get m x.0)
found-get m x = found-entry x (map.entries m) ∙ ap (option_map (limited_at x.0)) (sym (get-entries m x.0))

-- ---- what is kept of an object changes

-- an object before all those listed isn't among them
before-all : (change : Change) (x : Obj) (k : ℕ) (es : Entries) → x.0 ≤ k → T (below_all nat_cmp k es) → (find nat_cmp x.0 es ≡ None) × (each (counts_at change x) (listing es) ≡ listing es)
before-all change x k [] up h = (refl, refl)
before-all change x k (e ∷ es) up h =
    let p = both _ _ h in
    let l = lower k e.0 p.0 in
    let ih = before-all change x k es up p.1 in
    let apart : nat_eq x.0 e.0 ≡ false = eqb-false x.0 e.0 (λ q. absurd (omega (arith, l, up, q))) in
    let other : nat_eq e.0 x.0 ≡ false = eqb-false e.0 x.0 (λ q. absurd (omega (arith, l, up, q))) in
    (rw (ties x.0 e.0, other) ih.0, rw apart (ap (λ (ls : List Limited). limited_at e.0 e.1 ∷ ls) ih.1))

module _ (change : Change) (x : Obj) (a : Allowance) where
  counted : Allowance
  counted = record a { sum = summed change a.sum }

  put-counts : (es : Entries) → T (is_sorted nat_cmp es) → find nat_cmp x.0 es ≡ Some a → listing (put nat_cmp x.0 counted es) ≡ each (counts_at change x) (listing es)
  unfolding counted
  put-counts [] s is = cc
  put-counts (e ∷ es) s is = at (nat_cmp x.0 e.0) refl (put-counts es (both _ _ s).1)
    where
      at : (r : Ordering) → nat_cmp x.0 e.0 ≡ r → (find nat_cmp x.0 es ≡ Some a → listing (put nat_cmp x.0 counted es) ≡ each (counts_at change x) (listing es))
          → listing (put nat_cmp x.0 counted (e ∷ es)) ≡ each (counts_at change x) (listing (e ∷ es))
      at Less c ih =
          let l = lower x.0 e.0 (subst (λ r. T (is_lt r)) (sym c) tt) in
          let none = (before-all change x e.0 es (omega (arith, l)) (both _ _ s).0).0 in
          let bad : None ≡ Some a = rw (c, none) at is in
          cc
      at Equal c ih =
          let k : x.0 ≡ e.0 = nat_cmp-IsAntisymmetric x.0 e.0 c in
          let here : nat_eq x.0 e.0 ≡ true = eq-eqb x.0 e.0 k in
          let was : Some e.1 ≡ Some a = rw c at is in
          let is_a : e.1 ≡ a = cc in
          rw (c, here, is_a) (ap (λ (ls : List Limited). limited_at e.0 counted ∷ ls) (sym (before-all change x e.0 es (omega (arith, k)) (both _ _ s).0).1))
      at Greater c ih =
          let other : nat_eq e.0 x.0 ≡ false = sym (ties x.0 e.0) ∙ ap is_eq c in
          let apart : nat_eq x.0 e.0 ≡ false = eqb-false x.0 e.0 (λ q. let u = eq-eqb e.0 x.0 (sym q) in let bad : true ≡ false = sym u ∙ other in cc) in
          let later : find nat_cmp x.0 es ≡ Some a = rw c at is in
          rw (c, apart) (ap (λ (ls : List Limited). limited_at e.0 e.1 ∷ ls) (ih later))

  pub counted-listed : (m : map.FinMap nat_cmp Allowance) → map.get m x.0 ≡ Some a → listed (map.insert m x.0 (record a { sum = summed change a.sum })) ≡ each (counts_at change x) (listed m)
  unfolding counted
  counted-listed m is = ap listing (entries-insert nat_cmp_total m x.0 counted) ∙ put-counts (map.entries m) (entries_sorted m) (sym (get-entries m x.0) ∙ is)

-- where nothing is kept of an object it counts nothing
pub uncounted-listed : (change : Change) (x : Obj) (m : map.FinMap nat_cmp Allowance) → map.get m x.0 ≡ None → each (counts_at change x) (listed m) ≡ listed m
uncounted-listed change x m none = not-found change x (listed m) (ap is_some (found-get m x ∙ ap (option_map (limited_at x.0)) none))

-- ---- an object has no limit any more

left-entries : (x : Obj) (es : Entries) → listing (where_key nat_cmp (others x.0) es) ≡ unlimited (listing es) x
left-entries x [] = refl
left-entries x (e ∷ es) =
    let tie = ties x.0 e.0 in
    by_test (nat_eq e.0 x.0)
    (λ t. rw (tie, t) (left-entries x es))
    (λ t. rw (tie, t) (ap (λ (ls : List Limited). limited_at e.0 e.1 ∷ ls) (left-entries x es)))

pub removed-listed : (m : map.FinMap nat_cmp Allowance) (x : Obj) → listed (map.remove m x.0) ≡ unlimited (listed m) x
removed-listed m x = ap listing (entries-removed m x.0) ∙ left-entries x (map.entries m)

-- ---- an object gets a limit

limit-inserted : (m : map.FinMap nat_cmp Allowance) (x : Obj) (a : Allowance) (y : Obj) → limit_of (listed (map.insert m x.0 a)) y ≡ (if same x y then a.limit else limit_of (listed m) y)
limit-inserted m x a y =
    let now = limit-looked (listed (map.insert m x.0 a)) y ∙ ap limit-by (found-get (map.insert m x.0 a) y ∙ ap (option_map (limited_at y.0)) (get-insert nat_cmp_total m x.0 a y.0)) in
    let was = limit-looked (listed m) y ∙ ap limit-by (found-get m y) in
    let tie = ties y.0 x.0 in
    by_test (nat_eq x.0 y.0)
    (λ t. let now' : limit_of (listed (map.insert m x.0 a)) y ≡ a.limit = rw (tie, t) at now in rw t now')
    (λ t. let now' : limit_of (listed (map.insert m x.0 a)) y ≡ limit-by (option_map (limited_at y.0) (map.get m y.0)) = rw (tie, t) at now in rw t (now' ∙ sym was))

all-put : (P : Limited → Type 0) (x : Obj) (a : Allowance) (es : Entries) → P (limited_at x.0 a) → AllByRecursion P (listing es) → AllByRecursion P (listing (put nat_cmp x.0 a es))
all-put P x a [] p h = (p, tt)
all-put P x a (e ∷ es) p h = at (nat_cmp x.0 e.0) refl (all-put P x a es p h.1)
  where
    at : (r : Ordering) → nat_cmp x.0 e.0 ≡ r → AllByRecursion P (listing (put nat_cmp x.0 a es)) → AllByRecursion P (listing (put nat_cmp x.0 a (e ∷ es)))
    at Less c ih = rw c (p, h)
    at Equal c ih = rw c (subst (λ (k : ℕ). P (limited_at k a)) (nat_cmp-IsAntisymmetric x.0 e.0 c) p, h.1)
    at Greater c ih = rw c (h.0, ih)

-- what holds of it and of those listed holds of all
pub all-inserted : (P : Limited → Type 0) (m : map.FinMap nat_cmp Allowance) (x : Obj) (a : Allowance) → P (limited_at x.0 a) → AllByRecursion P (listed m) → AllByRecursion P (listed (map.insert m x.0 a))
all-inserted P m x a p h = subst (λ (es : Entries). AllByRecursion P (listing es)) (sym (entries-insert nat_cmp_total m x.0 a)) (all-put P x a (map.entries m) p h)

-- ---- an object among others that have kept their limits

found-unlimited : (ls : List Limited) (x : Obj) → found (unlimited ls x) x ≡ None
found-unlimited [] x = refl
found-unlimited (l ∷ ls) x = by_test (same l.object x) (λ t. rw t (found-unlimited ls x)) (λ t. rw (t, t) (found-unlimited ls x))

pub vacant-listed : (m : map.FinMap nat_cmp Allowance) (x : Obj) (ls : List Limited) → listed m ≡ unlimited ls x → map.get m x.0 ≡ None
vacant-listed m x ls are = at (map.get m x.0) refl
  where
    at : (o : Option Allowance) → map.get m x.0 ≡ o → map.get m x.0 ≡ None
    at None e = e
    at (Some a) e =
        let there = sym (found-get m x ∙ ap (option_map (limited_at x.0)) e) ∙ ap (λ (ks : List Limited). found ks x) are ∙ found-unlimited ls x in
        let bad : Some (limited_at x.0 a) ≡ None = there in
        cc

pub limit-replaced : (m : map.FinMap nat_cmp Allowance) (x : Obj) (a : Allowance) (ls : List Limited) → listed m ≡ unlimited ls x → (y : Obj) → limit_of (listed (map.insert m x.0 a)) y ≡ (if same x y then a.limit else limit_of ls y)
limit-replaced m x a ls are y =
    let now = limit-inserted m x a y in
    let was = ap (λ (ks : List Limited). limit_of ks y) are ∙ limit-unlimited ls x y in
    by_test (same x y)
    (λ t. let now' : limit_of (listed (map.insert m x.0 a)) y ≡ a.limit = rw t at now in rw t now')
    (λ t. let now' : limit_of (listed (map.insert m x.0 a)) y ≡ limit_of (listed m) y = rw t at now in
    let was' : limit_of (listed m) y ≡ limit_of ls y = rw t at was in rw t (now' ∙ was'))

-- ---- none has a limit

pub none-listed : (m : map.FinMap nat_cmp Allowance) → map.len m ≡ 0 → listed m ≡ []
none-listed m e = none (map.entries m) (sym (len-entries m) ∙ e)
  where
    none : (es : Entries) → length es ≡ 0 → listing es ≡ []
    none [] z = refl
    none (f ∷ es) z = absurd (omega (arith, z))

pub empty-listed : listed map.empty ≡ []
empty-listed = none-listed map.empty (len-empty nat_cmp Allowance)

pub listed-none : (m : map.FinMap nat_cmp Allowance) → listed m ≡ [] → map.len m ≡ 0
listed-none m e = len-entries m ∙ none (map.entries m) e
  where
    none : (es : Entries) → listing es ≡ [] → length es ≡ 0
    none [] z = refl
    none (f ∷ es) z = cc
