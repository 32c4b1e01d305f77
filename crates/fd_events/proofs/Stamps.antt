-- The stamps along the rotation, whatever leaves it or joins it.
use Rattle.std.proofs.Common.{◌≡◌, ℕ, suc, ◌<◌, ◌≤◌, true, false, cond, nat_eq, List, [], ◌∷◌, ◌++◌, Option, Some, None, refl, sym, ap, subst, ◌∙◌, arith, append_assoc}
use Rattle.std.specs.Option.{option_map}
use Rattle.tree_specs.specs.declared.watch.Watch.{Watch}
use Rattle.tree_specs.specs.declared.object.Obj.{Obj}
use Rattle.linked_lanes.specs.Lane.{has, without}
use Rattle.linked_lanes.proofs.Lanes.{by_test, eqb-self}
use Rattle.fd_events.specs.Linked.{numbered, listed_one, listed, FallFrom}
use Rattle.fd_events.proofs.Listing.{others}

-- under a greater number they still are
pub fall-below : (S : ℕ → Option ℕ) (n m : ℕ) (xs : List ℕ) → n ≤ m → FallFrom S n xs → FallFrom S m xs
fall-below S n m [] l f = tt
fall-below S n m (x ∷ xs) l f = (f.0, f.1, (let b = f.2 in omega (arith, l, b)), f.3)

pub fall-same : (S S' : ℕ → Option ℕ) (n : ℕ) (xs : List ℕ) → ((q : ℕ) → has xs q ≡ true → S' q ≡ S q) → FallFrom S n xs → FallFrom S' n xs
fall-same S S' n [] h f = tt
fall-same S S' n (x ∷ xs) h f = (
  f.0,
  h x (rw (eqb-self x) refl) ∙ f.1,
  f.2,
  fall-same S S' f.0 xs (λ q m. h q (by_test (nat_eq x q) (λ t. rw t refl) (λ t. rw t m))) f.3,
)

pub fall-without : (S : ℕ → Option ℕ) (n : ℕ) (xs : List ℕ) (k : ℕ) → FallFrom S n xs → FallFrom S n (without xs k)
fall-without S n [] k f = tt
fall-without S n (x ∷ xs) k f = by_test (nat_eq x k)
    (λ t. rw t (fall-below S f.0 n xs (let b = f.2 in omega (arith, b)) f.3))
    (λ t. rw t (f.0, f.1, f.2, fall-without S f.0 xs k f.3))

-- one joins with a stamp above all others
pub fall-joined : (S S' : ℕ → Option ℕ) (n m : ℕ) (xs : List ℕ) (x s : ℕ) → has xs x ≡ false → S x ≡ Some s
    → ((q : ℕ) → S' q ≡ cond (nat_eq x q) (option_map (λ (_ : ℕ). n) (S q)) (S q)) → n < m → FallFrom S n xs → FallFrom S' m (x ∷ xs)
fall-joined S S' n m xs x s out e h l f =
    let own = rw (eqb-self x) at (h x) in
    (n, own ∙ ap (option_map (λ (_ : ℕ). n)) e, l, fall-same S S' n xs (λ q i. rw (others xs x q out i) at (h q)) f)

-- ---- the stamps of the watches, in the order of the rotation

-- the first has a stamp of n at least, and each of the others a greater one than the one before it
abbrev pub RiseFrom : (Watch → ℕ) → ℕ → List Watch → Type 0
RiseFrom T n [] = Unit {0}
RiseFrom T n (w ∷ ws) = (n ≤ T w) × RiseFrom T (suc (T w)) ws

rise-above : (T : Watch → ℕ) (n m : ℕ) (ws : List Watch) → m ≤ n → RiseFrom T n ws → RiseFrom T m ws
rise-above T n m [] l r = tt
rise-above T n m (w ∷ ws) l r = ((let b = r.0 in omega (arith, l, b)), r.1)

abbrev pub or_zero : Option ℕ → ℕ
or_zero None = 0
or_zero (Some n) = n

-- the stamp of the event that watches so
abbrev pub stamp_in : (ℕ → Option ℕ) → Watch → ℕ
stamp_in S w = or_zero (S w.object.0)

module _ (W : ℕ → Option Watch) (S : ℕ → Option ℕ) (tells : (q : ℕ) (w : Watch) → W q ≡ Some w → w.object ≡ numbered q) where
  pub fall-rise : (n : ℕ) (xs : List ℕ) (end : List Watch) → FallFrom S n xs → RiseFrom (stamp_in S) n end → RiseFrom (stamp_in S) 0 (listed W xs ++ end)
  fall-rise n [] end f r = rise-above (stamp_in S) n 0 end (omega arith) r
  fall-rise n (x ∷ xs) end f r =
      subst (RiseFrom (stamp_in S) 0) (sym (append_assoc (listed W xs) (listed_one (W x)) end))
      (fall-rise f.0 xs (listed_one (W x) ++ end) f.3 (own (W x) (tells x)))
    where
      own : (o : Option Watch) → ((w : Watch) → o ≡ Some w → w.object ≡ numbered x) → RiseFrom (stamp_in S) f.0 (listed_one o ++ end)
      own None h = rise-above (stamp_in S) n f.0 end (let b = f.2 in omega (arith, b)) r
      own (Some w) h =
          let is : stamp_in S w ≡ f.0 = ap (λ (y : Obj). or_zero (S y.0)) (h w refl) ∙ ap or_zero f.1 in
          (omega (arith, is), rise-above (stamp_in S) n (suc (stamp_in S w)) end (let b = f.2 in omega (arith, b, is)) r)
