-- What a binary search finds of a descriptor, where the descriptors rise.
use Rattle.std.proofs.Common.{◌≡◌, ℕ, zero, suc, ◌<◌, ◌≤◌, Bool, true, false, ◌&&◌, nat_eq, nat_lt, List, [], ◌∷◌, length, get_or, refl, sym, ap, ◌∙◌, arith}
use Rattle.std.proofs.lemmas.Bool.{eq-eqb, ltb-true}
use Rattle.std.specs.List.Sorted.{IsNonDecreasingBy}
use Rattle.tree_specs.specs.declared.wants.Want.{Want}
use Rattle.tree_specs.specs.Words.Wants.{rises}
use Rattle.tree_specs.specs.Events.Rotation.{ready_for}
use Rattle.linked_lanes.proofs.Lanes.{eqb-false}

both : (a b : Bool) → (a && b) ≡ true → (a ≡ true) × (b ≡ true)
both true b e = (refl, e)
both false b e = cc

next : (w v : Want) (vs : List Want) → rises (w ∷ v ∷ vs) ≡ true → (w.fd < v.fd) × (rises (v ∷ vs) ≡ true)
next w v vs e = let p = both (nat_lt w.fd v.fd) (rises (v ∷ vs)) e in (ltb-true w.fd v.fd p.0, p.1)

pub tail : (w : Want) (ws : List Want) → rises (w ∷ ws) ≡ true → rises ws ≡ true
tail w [] e = refl
tail w (v ∷ vs) e = (next w v vs e).1

pub below : (w : Want) (ws : List Want) → rises (w ∷ ws) ≡ true → (j : ℕ) (d : Want) → j < length ws → w.fd < (get_or ws j d).fd
below w [] e j d l = absurd (omega arith)
below w (v ∷ vs) e zero d l = (next w v vs e).0
below w (v ∷ vs) e (suc j) d l = let n = next w v vs e in let ih = below v vs n.1 j d (omega arith) in let f = n.0 in omega (arith, ih, f)

pub not-falling : (ws : List Want) → rises ws ≡ true → IsNonDecreasingBy (λ w. w.fd) ws
not-falling [] e i j d le l = absurd (omega arith)
not-falling (w ∷ ws) e zero zero d le l = omega arith
not-falling (w ∷ ws) e zero (suc j) d le l = let b = below w ws e j d (omega arith) in omega (arith, b)
not-falling (w ∷ ws) e (suc i) zero d le l = absurd (omega arith)
not-falling (w ∷ ws) e (suc i) (suc j) d le l = not-falling ws (tail w ws e) i j d (omega arith) (omega arith)

-- those before this place have lesser descriptors
abbrev pub AreBefore : List Want → ℕ → ℕ → Type 0
AreBefore ws at fd = (k : ℕ) (d : Want) → k < at → k < length ws → (get_or ws k d).fd < fd

pub found-at : (ws : List Want) (at fd : ℕ) (v : Want) → AreBefore ws at fd → at < length ws → ((d : Want) → v ≡ get_or ws at d) → v.fd ≡ fd → v.flags ≡ ready_for ws fd
found-at [] at fd v b l e f = absurd (omega arith)
found-at (w ∷ ws) zero fd v b l e f =
    let is : v ≡ w = e v in
    let t : nat_eq w.fd fd ≡ true = eq-eqb w.fd fd (sym (ap (λ (u : Want). u.fd) is) ∙ f) in rw t (ap (λ (u : Want). u.flags) is)
found-at (w ∷ ws) (suc at) fd v b l e f =
    let m : w.fd < fd = b zero w (omega arith) (omega arith) in
    let t : nat_eq w.fd fd ≡ false = eqb-false w.fd fd (λ h. absurd (omega (arith, m, h))) in
    rw t (found-at ws at fd v (λ k d n o. b (suc k) d (omega arith) (omega arith)) (omega arith) e f)

none-above : (w : Want) (ws : List Want) (fd : ℕ) → rises (w ∷ ws) ≡ true → fd ≤ w.fd → 0 ≡ ready_for ws fd
none-above w [] fd e l = refl
none-above w (v ∷ vs) fd e l =
    let n = next w v vs e in let m = n.0 in
    let t : nat_eq v.fd fd ≡ false = eqb-false v.fd fd (λ h. absurd (omega (arith, l, m, h))) in
    rw t (none-above v vs fd n.1 (omega (arith, l, m)))

pub none-at : (ws : List Want) (at fd : ℕ) → rises ws ≡ true → AreBefore ws at fd → ((d : Want) → at < length ws → fd < (get_or ws at d).fd) → 0 ≡ ready_for ws fd
none-at [] at fd e b h = refl
none-at (w ∷ ws) zero fd e b h =
    let l : fd < w.fd = h w (omega arith) in
    let t : nat_eq w.fd fd ≡ false = eqb-false w.fd fd (λ q. absurd (omega (arith, l, q))) in
    rw t (none-above w ws fd e (omega (arith, l)))
none-at (w ∷ ws) (suc at) fd e b h =
    let l : w.fd < fd = b zero w (omega arith) (omega arith) in
    let t : nat_eq w.fd fd ≡ false = eqb-false w.fd fd (λ q. absurd (omega (arith, l, q))) in
    rw t (none-at ws at fd (tail w ws e) (λ k d m n. b (suc k) d (omega arith) (omega arith)) (λ d m. h d (omega arith)))
