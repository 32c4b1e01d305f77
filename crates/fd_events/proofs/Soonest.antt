-- The first event that comes, found from the descriptors that are ready: it is the one with the least stamp.
use Rattle.std.proofs.Common.{◌≡◌, ℕ, suc, ◌<◌, ◌≤◌, true, false, cond, nat_eq, nat_lt, bit_and, List, [], ◌∷◌, Option, Some, None, is_some, refl, sym, ap, ◌∙◌, arith}
use Rattle.std.specs.Int.Bits.{and_zero_r}
use Rattle.std.specs.List.{find}
use Rattle.std.specs.Option.{option_map, option_or}
use Rattle.std.proofs.lemmas.Bool.{eqb-true, eq-eqb, ltb-true, ltb-false}
use Rattle.tree_specs.specs.declared.watch.Watch.{Watch}
use Rattle.tree_specs.specs.declared.wants.Want.{Want}
use Rattle.tree_specs.specs.Events.Rotation.{ready_for}
use Rattle.linked_lanes.proofs.Lanes.{by_test, eqb-sym}
use Rattle.fd_events.specs.declared.coming.Coming.{Coming}
use Rattle.fd_events.specs.declared.ready.ReadyEvent.{ReadyEvent}
use Rattle.fd_events.specs.Rotation.{AreDescriptorsOnce}
use Rattle.fd_events.specs.Picking.{ready_by, stamped, sooner, first_event}
use Rattle.fd_events.proofs.Stamps.{RiseFrom}

abbrev pub event_of : Coming → ReadyEvent
event_of c = c.event

-- a descriptor that isn't ready
not-ready : (w : Watch) (flags : ℕ) → flags ≡ 0 → ready_by w flags ≡ None
not-ready w flags e = let t : nat_eq (bit_and w.flags flags) 0 ≡ true = eq-eqb _ 0 (ap (bit_and w.flags) e ∙ and_zero_r w.flags) in rw t refl

-- ---- the sooner one of two

sooner-front : (a b : Option Coming) → ((c d : Coming) → a ≡ Some c → b ≡ Some d → c.stamp < d.stamp) → option_or a b ≡ sooner b a
sooner-front None None h = refl
sooner-front None (Some d) h = refl
sooner-front (Some c) None h = refl
sooner-front (Some c) (Some d) h = by_test (nat_lt c.stamp d.stamp)
    (λ t. rw t refl)
    (λ t. let l = ltb-false c.stamp d.stamp t in let b = h c d refl refl in absurd (omega (arith, l, b)))

sooner-behind : (a b o : Option Coming) → ((c d : Coming) → a ≡ Some c → o ≡ Some d → c.stamp ≤ d.stamp) → option_or a (sooner b o) ≡ sooner (option_or a b) o
sooner-behind None b o h = refl
sooner-behind (Some c) b None h = refl
sooner-behind (Some c) b (Some d) h = by_test (nat_lt d.stamp c.stamp)
    (λ t. let l = ltb-true d.stamp c.stamp t in let k = h c d refl refl in absurd (omega (arith, l, k)))
    (λ t. rw t refl)

module _ (T : Watch → ℕ) where
  abbrev pub coming_of : Watch → ℕ → Option Coming
  coming_of w flags = option_map (stamped (T w)) (ready_by w flags)

  -- the first that comes, where descriptors are ready so
  abbrev pub first_coming : (ℕ → ℕ) → List Watch → Option Coming
  first_coming R [] = None
  first_coming R (w ∷ ws) = option_or (coming_of w (R w.fd)) (first_coming R ws)

  -- the one that watches a descriptor, where that is ready so
  abbrev pub one_coming : ℕ → Option Watch → Option Coming
  one_coming flags None = None
  one_coming flags (Some w) = coming_of w flags

  stamp-of : (w : Watch) (flags : ℕ) (c : Coming) → coming_of w flags ≡ Some c → c.stamp ≡ T w
  stamp-of w flags c e = go (ready_by w flags) e
    where
      go : (o : Option ReadyEvent) → option_map (stamped (T w)) o ≡ Some c → c.stamp ≡ T w
      go None e = cc
      go (Some v) e = let is : stamped (T w) v ≡ c = cc in ap (λ (d : Coming). d.stamp) (sym is)

  first-above : (R : ℕ → ℕ) (n : ℕ) (ws : List Watch) (c : Coming) → RiseFrom T n ws → first_coming R ws ≡ Some c → n ≤ c.stamp
  first-above R n [] c r e = cc
  first-above R n (w ∷ ws) c r e = go (λ h. first-above R (suc (T w)) ws c r.1 h) (coming_of w (R w.fd)) refl e
    where
      go : (first_coming R ws ≡ Some c → suc (T w) ≤ c.stamp) → (o : Option Coming) → coming_of w (R w.fd) ≡ o → option_or o (first_coming R ws) ≡ Some c → n ≤ c.stamp
      go ih None k h = let i = ih h in let b = r.0 in omega (arith, i, b)
      go ih (Some d) k h = let s = stamp-of w (R w.fd) c (k ∙ h) in let b = r.0 in omega (arith, s, b)

  one-above : (fd flags n : ℕ) (ws : List Watch) (c : Coming) → RiseFrom T n ws → one_coming flags (find (λ w. nat_eq w.fd fd) ws) ≡ Some c → n ≤ c.stamp
  one-above fd flags n [] c r e = cc
  one-above fd flags n (w ∷ ws) c r e = by_test (nat_eq w.fd fd)
      (λ t. let e' : coming_of w flags ≡ Some c = rw t at e in let s = stamp-of w flags c e' in let b = r.0 in omega (arith, s, b))
      (λ t. let e' : one_coming flags (find (λ v. nat_eq v.fd fd) ws) ≡ Some c = rw t at e in
      let ih = one-above fd flags (suc (T w)) ws c r.1 e' in let b = r.0 in omega (arith, ih, b))

  -- none is ready
  pub first-none : (R : ℕ → ℕ) (ws : List Watch) → ((q : ℕ) → R q ≡ 0) → first_coming R ws ≡ None
  first-none R [] h = refl
  first-none R (w ∷ ws) h = (λ i. option_or (option_map (stamped (T w)) (not-ready w (R w.fd) (h w.fd) i)) (first-none R ws h i))

  -- these descriptors are ready
  pub first-all : (vs : List Want) (ws : List Watch) → option_map event_of (first_coming (ready_for vs) ws) ≡ first_event ws vs
  first-all vs [] = refl
  first-all vs (w ∷ ws) = by_test (nat_eq (bit_and w.flags (ready_for vs w.fd)) 0)
      (λ t. rw t (first-all vs ws))
      (λ t. rw t refl)

  -- ---- one more descriptor is ready

  module _ (R R' : ℕ → ℕ) (fd flags : ℕ) (more : (q : ℕ) → R' q ≡ cond (nat_eq fd q) flags (R q)) (new : R fd ≡ 0) where
    other : (q : ℕ) → nat_eq q fd ≡ false → R' q ≡ R q
    other q t = more q ∙ (let u : nat_eq fd q ≡ false = eqb-sym fd q ∙ t in rw u refl)

    unwatched-same : (ws : List Watch) → is_some (find (λ w. nat_eq w.fd fd) ws) ≡ false → first_coming R' ws ≡ first_coming R ws
    unwatched-same [] e = refl
    unwatched-same (w ∷ ws) e = by_test (nat_eq w.fd fd)
        (λ t. let bad : true ≡ false = rw t at e in cc)
        (λ t. let e' : is_some (find (λ v. nat_eq v.fd fd) ws) ≡ false = rw t at e in
        (λ i. option_or (coming_of w (other w.fd t i)) (unwatched-same ws e' i)))

    pub one-more : (n : ℕ) (ws : List Watch) → AreDescriptorsOnce ws → RiseFrom T n ws → first_coming R' ws ≡ sooner (first_coming R ws) (one_coming flags (find (λ w. nat_eq w.fd fd) ws))
    one-more n [] d r = refl
    one-more n (w ∷ ws) d r = by_test (nat_eq w.fd fd)
        (λ t. let own : R' w.fd ≡ flags = more w.fd ∙ (let u : nat_eq fd w.fd ≡ true = eqb-sym fd w.fd ∙ t in rw u refl) in
        let out : is_some (find (λ v. nat_eq v.fd fd) ws) ≡ false = ap (λ k. is_some (find (λ (v : Watch). nat_eq v.fd k) ws)) (sym (eqb-true w.fd fd t)) ∙ d.0 in
        rw t ((λ i. option_or (coming_of w (own i)) (unwatched-same ws out i))
        ∙ sooner-front (coming_of w flags) (first_coming R ws) (λ c e p q.
        let s = stamp-of w flags c p in let b = first-above R (suc (T w)) ws e r.1 q in omega (arith, s, b))
        ∙ (λ i. sooner (option_or (option_map (stamped (T w)) (sym (not-ready w (R w.fd) (ap R (eqb-true w.fd fd t) ∙ new)) i)) (first_coming R ws)) (coming_of w flags))))
        (λ t. rw t ((λ i. option_or (coming_of w (other w.fd t i)) (one-more (suc (T w)) ws d.1 r.1 i))
        ∙ sooner-behind (coming_of w (R w.fd)) (first_coming R ws) (one_coming flags (find (λ v. nat_eq v.fd fd) ws)) (λ c e p q.
        let s = stamp-of w (R w.fd) c p in let b = one-above fd flags (suc (T w)) ws e r.1 q in omega (arith, s, b))))
