-- A test that may hold of more objects with each step settles within as many steps as there are rows.
use Rattle.std.proofs.Common.{◌≡◌, ℕ, zero, suc, ◌+◌, ◌-◌, ◌<◌, ◌≤◌, List, [], ◌∷◌, length, Option, Some, None, Bool, true, if◌then◌else◌, refl, sym, ◌∙◌, ap, ◌⊎◌, inl, inr, arith}
use Rattle.tree_specs.specs.declared.object.Obj.{Obj}
use Rattle.tree_specs.specs.declared.row.Row.{Row}
use Rattle.tree_specs.specs.Words.Objects.{same}
use Rattle.tree_specs.specs.Tree.Pool.{row_of}
use Rattle.tree_specs.specs.Tree.Inside.{total}
use Rattle.tree_specs.proofs.Tree.Numbered.{by_test, same-true}

abbrev number : (Obj → Bool) → List Row → ℕ
number f qs = total (λ r. if f r.serial then 1 else 0) qs

number-most : (f : Obj → Bool) (qs : List Row) → number f qs ≤ length qs
number-most f [] = omega arith
number-most f (r ∷ qs) = let ih = number-most f qs in by_test (f r.serial) (λ t. rw t (omega (arith, ih))) (λ t. rw t (omega (arith, ih)))

number-grows : (f h : Obj → Bool) (qs : List Row) → ((x : Obj) → f x ≡ true → h x ≡ true) → number f qs ≤ number h qs
number-grows f h [] k = omega arith
number-grows f h (r ∷ qs) k = let ih = number-grows f h qs k in by_test (f r.serial)
    (λ t. let u : h r.serial ≡ true = k r.serial t in rw (t, u) (omega (arith, ih)))
    (λ t. by_test (h r.serial) (λ u. rw (t, u) (omega (arith, ih))) (λ u. rw (t, u) (omega (arith, ih))))

-- two tests agree on the objects of these rows
abbrev Agree : (Obj → Bool) → (Obj → Bool) → List Row → Type 0
Agree f h qs = (x : Obj) (r : Row) → row_of qs x ≡ Some r → h x ≡ f x

agree-more : (f h : Obj → Bool) (r : Row) (qs : List Row) → h r.serial ≡ f r.serial → Agree f h qs → Agree f h (r ∷ qs)
agree-more f h r qs e a x q at = by_test (same r.serial x)
    (λ t. let s : r.serial ≡ x = same-true r.serial x t in ap h (sym s) ∙ e ∙ ap f s)
    (λ t. let at' : row_of qs x ≡ Some q = rw t at at in a x q at')

agree_or_more : (f h : Obj → Bool) (qs : List Row) → ((x : Obj) → f x ≡ true → h x ≡ true) → Agree f h qs ⊎ (number f qs < number h qs)
agree_or_more f h [] k = inl (λ x r e. cc)
agree_or_more f h (r ∷ qs) k = let up = number-grows f h qs k in by_test (f r.serial)
    (λ t. let u : h r.serial ≡ true = k r.serial t in elim (agree_or_more f h qs k) [
      | inl a ↦ inl (agree-more f h r qs (u ∙ sym t) a)
      | inr m ↦ inr (rw (t, u) (omega (arith, m)))
    ])
    (λ t. by_test (h r.serial)
    (λ u. inr (rw (t, u) (omega (arith, up))))
    (λ u. elim (agree_or_more f h qs k) [
      | inl a ↦ inl (agree-more f h r qs (u ∙ sym t) a)
      | inr m ↦ inr (rw (t, u) (omega (arith, m)))
    ]))

-- a test for each number of steps: what it holds of it holds of with more steps; where one step more changes nothing, no further
-- step does; of what is no row it holds at once or never
pub record Settling (rs : List Row) (f : ℕ → Obj → Bool) : Type 0 where
  pub grows : (n : ℕ) (x : Obj) → f n x ≡ true → f (suc n) x ≡ true
  pub settled : (n : ℕ) → ((x : Obj) → f (suc n) x ≡ f n x) → (x : Obj) → f (suc (suc n)) x ≡ f (suc n) x
  pub elsewhere : (n : ℕ) (x : Obj) → row_of rs x ≡ None → f (suc n) x ≡ f n x

agree-all : (rs : List Row) (f : ℕ → Obj → Bool) → Settling rs f → (n : ℕ) → Agree (f n) (f (suc n)) rs → (x : Obj) → f (suc n) x ≡ f n x
agree-all rs f s n a x = go (row_of rs x) refl where
  go : (q : Option Row) → row_of rs x ≡ q → f (suc n) x ≡ f n x
  go None e = s.elsewhere n x e
  go (Some r) e = a x r e

settles_or_more : (rs : List Row) (f : ℕ → Obj → Bool) → Settling rs f → (j : ℕ)
    → ((i : ℕ) × (i < j) × ((x : Obj) → f (suc i) x ≡ f i x)) ⊎ (j ≤ number (f j) rs)
settles_or_more rs f s zero = inr (omega arith)
settles_or_more rs f s (suc j) = elim (settles_or_more rs f s j) [
  | inl w ↦ let below : w.0 < j = w.1 in inl (w.0, omega (arith, below), w.2)
  | inr m ↦ elim (agree_or_more (f j) (f (suc j)) rs (s.grows j)) [
    | inl a ↦ inl (j, omega arith, agree-all rs f s j a)
    | inr u ↦ inr (omega (arith, m, u))
  ]
]

grows-on : (rs : List Row) (f : ℕ → Obj → Bool) → Settling rs f → (d n : ℕ) (x : Obj) → f n x ≡ true → f (d + n) x ≡ true
grows-on rs f s zero n x h = let e : 0 + n ≡ n = omega arith in rw e h
grows-on rs f s (suc d) n x h = let e : suc d + n ≡ suc (d + n) = omega arith in rw e (s.grows (d + n) x (grows-on rs f s d n x h))

stays-settled : (rs : List Row) (f : ℕ → Obj → Bool) → Settling rs f → (n : ℕ) → ((x : Obj) → f (suc n) x ≡ f n x)
    → (d : ℕ) → ((x : Obj) → f (suc (d + n)) x ≡ f (d + n) x)
stays-settled rs f s n h zero = let e : 0 + n ≡ n = omega arith in λ x. rw e (h x)
stays-settled rs f s n h (suc d) = let e : suc d + n ≡ suc (d + n) = omega arith in λ x. rw e (s.settled (d + n) (stays-settled rs f s n h d) x)

back : (rs : List Row) (f : ℕ → Obj → Bool) → Settling rs f → (n : ℕ) → ((x : Obj) → f (suc n) x ≡ f n x)
    → (d : ℕ) (x : Obj) → f (d + n) x ≡ true → f n x ≡ true
back rs f s n h zero x t = let e : 0 + n ≡ n = omega arith in rw e at t
back rs f s n h (suc d) x t = let e : suc d + n ≡ suc (d + n) = omega arith in
    let t' : f (suc (d + n)) x ≡ true = rw e at t in
    back rs f s n h d x (sym (stays-settled rs f s n h d x) ∙ t')

-- what holds within some number of steps holds within as many as there are rows
pub settles : (rs : List Row) (f : ℕ → Obj → Bool) → Settling rs f → (k : ℕ) (x : Obj) → f k x ≡ true → f (length rs) x ≡ true
settles rs f s k x t = elim (settles_or_more rs f s (suc (length rs))) [
  | inl w ↦ let i : ℕ = w.0 in
      let below : i < suc (length rs) = w.1 in
      let e1 : i + k ≡ k + i = omega arith in
      let e2 : (length rs - i) + i ≡ length rs = omega (arith, below) in
      let far : f (k + i) x ≡ true = rw e1 at (grows-on rs f s i k x t) in
      rw e2 at (grows-on rs f s (length rs - i) i x (back rs f s i w.2 k x far))
  | inr m ↦ let most = number-most (f (suc (length rs))) rs in absurd (omega (arith, m, most))
]
