-- What a push at the front and a removal leave of a lane's links.
use Rattle.std.proofs.Common.{◌≡◌, ◌≢◌, ℕ, suc, Bool, true, false, cond, ◌||◌, nat_eq, List, [], ◌∷◌, length, Option, Some, None, refl, sym, ap, ◌∙◌, arith}
use Rattle.std.proofs.lemmas.Bool.{eqb-true, eq-eqb}
use Rattle.linked_lanes.specs.Lane.{first, is_at, has, after, before_from, before, without, Distinct}

pub by_test : {P : Type 0} (b : Bool) → (b ≡ true → P) → (b ≡ false → P) → P
by_test true h k = h refl
by_test false h k = k refl

pub eqb-false : (x y : ℕ) → x ≢ y → nat_eq x y ≡ false
eqb-false x y h = by_test (nat_eq x y) (λ e. absurd (h (eqb-true x y e))) (λ e. e)

pub eqb-self : (x : ℕ) → nat_eq x x ≡ true
eqb-self x = eq-eqb x x refl

pub eqb-sym : (x y : ℕ) → nat_eq x y ≡ nat_eq y x
eqb-sym x y = by_test (nat_eq y x)
    (λ t. eq-eqb x y (sym (eqb-true y x t)) ∙ sym t)
    (λ t. by_test (nat_eq x y) (λ u. let w : nat_eq y x ≡ true = eq-eqb y x (sym (eqb-true x y u)) in u ∙ sym w) (λ u. u ∙ sym t))

pub not_both : {P : Type 0} {b : Bool} → b ≡ true → b ≡ false → P
not_both {P} {b} h k = let bad : true ≡ false = sym h ∙ k in absurd (cc)

-- at the front of a lane its predecessor alone changes
pub before_from-front : (p : Option ℕ) (xs : List ℕ) (k : ℕ) → before_from p xs k ≡ cond (is_at (first xs) k) p (before xs k)
before_from-front p [] k = refl
before_from-front p (x ∷ xs) k = by_test (nat_eq x k) (λ t. rw t refl) (λ t. rw t refl)

pub before-push : (x : ℕ) (xs : List ℕ) (k : ℕ) → nat_eq x k ≡ false → before (x ∷ xs) k ≡ cond (is_at (first xs) k) (Some x) (before xs k)
before-push x xs k h = rw h (before_from-front (Some x) xs k)

pub after-absent : (xs : List ℕ) (k : ℕ) → has xs k ≡ false → after xs k ≡ None
after-absent [] k h = refl
after-absent (x ∷ xs) k h = by_test (nat_eq x k)
    (λ t. let bad : true ≡ false = rw t at h in absurd (cc))
    (λ t. let h' : has xs k ≡ false = rw t at h in rw t (after-absent xs k h'))

pub before_from-absent : (p : Option ℕ) (xs : List ℕ) (k : ℕ) → has xs k ≡ false → before_from p xs k ≡ None
before_from-absent p [] k h = refl
before_from-absent p (x ∷ xs) k h = by_test (nat_eq x k)
    (λ t. let bad : true ≡ false = rw t at h in absurd (cc))
    (λ t. let h' : has xs k ≡ false = rw t at h in rw t (before_from-absent (Some x) xs k h'))

pub without-absent : (xs : List ℕ) (k : ℕ) → has xs k ≡ false → without xs k ≡ xs
without-absent [] k h = refl
without-absent (x ∷ xs) k h = by_test (nat_eq x k)
    (λ t. let bad : true ≡ false = rw t at h in absurd (cc))
    (λ t. let h' : has xs k ≡ false = rw t at h in rw t (ap (λ ys. x ∷ ys) (without-absent xs k h')))

pub has-first : (xs : List ℕ) (k : ℕ) → is_at (first xs) k ≡ true → has xs k ≡ true
has-first [] k h = not_both h refl
has-first (x ∷ xs) k h = rw h refl

pub is_at-same : (o : Option ℕ) (k : ℕ) → is_at o k ≡ true → o ≡ Some k
is_at-same None k h = not_both h refl
is_at-same (Some x) k h = ap Some (eqb-true x k h)

pub has-after : (xs : List ℕ) (x k : ℕ) → is_at (after xs x) k ≡ true → has xs k ≡ true
has-after [] x k h = not_both h refl
has-after (y ∷ ys) x k h = by_test (nat_eq y k)
    (λ u. rw u refl)
    (λ u. rw u (by_test (nat_eq y x)
    (λ t. has-first ys k (rw t at h))
    (λ t. has-after ys x k (rw t at h))))

pub has-before_from : (p : Option ℕ) (xs : List ℕ) (x k : ℕ) → is_at (before_from p xs x) k ≡ true → is_at p k ≡ false → has xs k ≡ true
has-before_from p [] x k h n = not_both h refl
has-before_from p (y ∷ ys) x k h n = by_test (nat_eq y k)
    (λ u. rw u refl)
    (λ u. rw u (by_test (nat_eq y x)
    (λ t. not_both (rw t at h) n)
    (λ t. has-before_from (Some y) ys x k (rw t at h) u)))

-- removal: the first
pub first-without : (xs : List ℕ) (x : ℕ) → first (without xs x) ≡ cond (is_at (first xs) x) (after xs x) (first xs)
first-without [] x = refl
first-without (y ∷ ys) x = by_test (nat_eq y x) (λ t. rw t refl) (λ t. rw t refl)

-- removal: the links of the others
pub after-without : (xs : List ℕ) (x k : ℕ) → Distinct xs → nat_eq x k ≡ false → after (without xs x) k ≡ cond (is_at (after xs k) x) (after xs x) (after xs k)
after-without [] x k d n = refl
after-without (y ∷ ys) x k d n = by_test (nat_eq y x)
    (λ t. let yk : nat_eq y k ≡ false = ap (λ q. nat_eq q k) (eqb-true y x t) ∙ n in
    let gone : has ys x ≡ false = ap (has ys) (sym (eqb-true y x t)) ∙ d.0 in
    rw (t, yk) (go gone))
    (λ t. by_test (nat_eq y k)
    (λ u. rw (t, u) (first-without ys x))
    (λ u. rw (t, u) (after-without ys x k d.1 n)))
  where
    go : has ys x ≡ false → after ys k ≡ cond (is_at (after ys k) x) (first ys) (after ys k)
    go gone = by_test (is_at (after ys k) x) (λ w. not_both (has-after ys k x w) gone) (λ w. rw w refl)

pub false_by : (b : Bool) → (b ≡ true → ⊥) → b ≡ false
false_by true h = absurd (h refl)
false_by false h = refl

pub before_from-without : (p : Option ℕ) (xs : List ℕ) (x k : ℕ) → Distinct xs → nat_eq x k ≡ false → is_at p x ≡ false
    → before_from p (without xs x) k ≡ cond (is_at (before_from p xs k) x) (before_from p xs x) (before_from p xs k)
before_from-without p [] x k d n h = refl
before_from-without p (y ∷ ys) x k d n h = by_test (nat_eq y x)
    (λ t. let yk : nat_eq y k ≡ false = ap (λ q. nat_eq q k) (eqb-true y x t) ∙ n in
    let gone : has ys x ≡ false = ap (has ys) (sym (eqb-true y x t)) ∙ d.0 in
    rw (t, yk) (by_test (is_at (first ys) k)
    (λ w. rw (before_from-front p ys k, before_from-front (Some y) ys k, w, t) refl)
    (λ w. let out : is_at (before ys k) x ≡ false = false_by _ (λ b. not_both (has-before_from None ys k x b refl) gone) in
    rw (before_from-front p ys k, before_from-front (Some y) ys k, w, out) refl)))
    (λ t. by_test (nat_eq y k)
    (λ u. rw (t, u, h) refl)
    (λ u. rw (t, u) (before_from-without (Some y) ys x k d.1 n t)))

pub before-without : (xs : List ℕ) (x k : ℕ) → Distinct xs → nat_eq x k ≡ false → before (without xs x) k ≡ cond (is_at (before xs k) x) (before xs x) (before xs k)
before-without xs x k d n = before_from-without None xs x k d n refl

-- the two links agree
pub links_agree_from : (p : Option ℕ) (xs : List ℕ) (x k : ℕ) → Distinct xs → is_at p x ≡ false → is_at (before_from p xs k) x ≡ is_at (after xs x) k
links_agree_from p [] x k d h = refl
links_agree_from p (y ∷ ys) x k d h = by_test (nat_eq y k)
    (λ u. let gone : has ys k ≡ false = ap (has ys) (sym (eqb-true y k u)) ∙ d.0 in
    rw (u, h) (by_test (nat_eq y x)
    (λ t. rw t (sym (false_by _ (λ b. not_both (has-first ys k b) gone))))
    (λ t. rw t (sym (false_by _ (λ b. not_both (has-after ys x k b) gone))))))
    (λ u. by_test (nat_eq y x)
    (λ t. let gone : has ys x ≡ false = ap (has ys) (sym (eqb-true y x t)) ∙ d.0 in
    rw (u, t) (by_test (is_at (first ys) k)
    (λ w. rw (before_from-front (Some y) ys k, w) t)
    (λ w. let out : is_at (before ys k) x ≡ false = false_by _ (λ b. not_both (has-before_from None ys k x b refl) gone) in
    rw (before_from-front (Some y) ys k, w) out)))
    (λ t. rw (u, t) (links_agree_from (Some y) ys x k d.1 t)))

pub links_agree : (xs : List ℕ) (x k : ℕ) → Distinct xs → is_at (before xs k) x ≡ is_at (after xs x) k
links_agree xs x k d = links_agree_from None xs x k d refl

pub has-without : (xs : List ℕ) (x k : ℕ) → has xs k ≡ false → has (without xs x) k ≡ false
has-without [] x k h = refl
has-without (y ∷ ys) x k h = by_test (nat_eq y k)
    (λ t. let bad : true ≡ false = rw t at h in absurd (cc))
    (λ t. let h' : has ys k ≡ false = rw t at h in by_test (nat_eq y x)
    (λ u. rw u h')
    (λ u. rw (u, t) (has-without ys x k h')))

-- another one stays where it was
pub has-without-other : (xs : List ℕ) (x k : ℕ) → nat_eq x k ≡ false → has (without xs x) k ≡ has xs k
has-without-other [] x k n = refl
has-without-other (y ∷ ys) x k n = by_test (nat_eq y x)
    (λ t. let u : nat_eq y k ≡ false = ap (λ (z : ℕ). nat_eq z k) (eqb-true y x t) ∙ n in rw (t, u) refl)
    (λ t. rw t (ap (λ b. nat_eq y k || b) (has-without-other ys x k n)))

pub has-without-same : (xs : List ℕ) (x : ℕ) → Distinct xs → has (without xs x) x ≡ false
has-without-same [] x d = refl
has-without-same (y ∷ ys) x d = by_test (nat_eq y x)
    (λ t. rw t (ap (has ys) (sym (eqb-true y x t)) ∙ d.0))
    (λ t. rw t (rw t (has-without-same ys x d.1)))

pub Distinct-without : (xs : List ℕ) (x : ℕ) → Distinct xs → Distinct (without xs x)
Distinct-without [] x d = tt
Distinct-without (y ∷ ys) x d = by_test (nat_eq y x)
    (λ t. rw t d.1)
    (λ t. rw t (has-without ys x y d.0, Distinct-without ys x d.1))

pub length-without : (xs : List ℕ) (x : ℕ) → has xs x ≡ true → suc (length (without xs x)) ≡ length xs
length-without [] x h = not_both h refl
length-without (y ∷ ys) x h = by_test (nat_eq y x)
    (λ t. rw t refl)
    (λ t. let h' : has ys x ≡ true = rw t at h in let ih = length-without ys x h' in rw t (omega arith))
