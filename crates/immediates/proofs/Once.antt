-- Each object waits once, whatever is taken out or added.
use Rattle.std.proofs.Common.{◌≡◌, Bool, ◌+◌, List, [], ◌∷◌, ◌++◌, length, drop, Some, true, false, not, refl, sym, ◌∙◌, ap, arith}
use Rattle.std.specs.List.{filter}
use Rattle.std.specs.Option.{option_map}
use Rattle.tree_specs.specs.declared.object.Obj.{Obj}
use Rattle.tree_specs.specs.Words.Objects.{same}
use Rattle.tree_specs.specs.Events.Pending.{first}
use Rattle.tree_specs.proofs.Tree.Numbered.{by_test, same-equal, same-true, same-false}
use Rattle.tree_specs.specs.declared.coming.Coming.{Coming}
use Rattle.tree_specs.specs.Events.Pending.{is_scheduled, unscheduled}
use Rattle.immediates.specs.Waiting.{AreOnce, object_of}

pub gone : (xs : List Coming) (x : Obj) → is_scheduled (unscheduled xs x) x ≡ false
gone [] x = refl
gone (y ∷ ys) x = by_test (same y.object x) (λ t. rw t (gone ys x)) (λ t. rw t (rw t (gone ys x)))

-- one that doesn't wait isn't among some of those that do
pub few-absent : (p : Coming → Bool) (xs : List Coming) (z : Obj) → is_scheduled xs z ≡ false → is_scheduled (filter p xs) z ≡ false
few-absent p [] z e = refl
few-absent p (y ∷ ys) z e = by_test (same y.object z)
    (λ u. let bad : true ≡ false = rw u at e in cc)
    (λ u. let e' : is_scheduled ys z ≡ false = rw u at e in
    let ih = few-absent p ys z e' in
    by_test (p y) (λ t. rw t (rw u ih)) (λ t. rw t ih))

pub few-once : (p : Coming → Bool) (xs : List Coming) → AreOnce xs → AreOnce (filter p xs)
few-once p [] a = tt
few-once p (y ∷ ys) a = by_test (p y) (λ t. rw t (few-absent p ys y.object a.0, few-once p ys a.1)) (λ t. rw t (few-once p ys a.1))

pub once-without : (xs : List Coming) (x : Obj) → AreOnce xs → AreOnce (unscheduled xs x)
once-without xs x a = few-once (λ y. not (same y.object x)) xs a

other-added : (xs : List Coming) (x : Coming) (z : Obj) → is_scheduled xs z ≡ false → same x.object z ≡ false → is_scheduled (xs ++ x ∷ []) z ≡ false
other-added [] x z e n = rw n refl
other-added (y ∷ ys) x z e n = by_test (same y.object z)
    (λ u. let bad : true ≡ false = rw u at e in cc)
    (λ u. let e' : is_scheduled ys z ≡ false = rw u at e in rw u (other-added ys x z e' n))

pub once-added : (xs : List Coming) (x : Coming) → AreOnce xs → is_scheduled xs x.object ≡ false → AreOnce (xs ++ x ∷ [])
once-added [] x a n = (refl, tt)
once-added (y ∷ ys) x a n = by_test (same y.object x.object)
    (λ t. let bad : true ≡ false = rw t at n in cc)
    (λ t. let n' : is_scheduled ys x.object ≡ false = rw t at n in
    let flip : same x.object y.object ≡ false = same-false x.object y.object (λ e. let u : same y.object x.object ≡ true = same-equal y.object x.object (sym e) in let bad : true ≡ false = sym u ∙ t in cc) in
    (other-added ys x y.object a.0 flip, once-added ys x a.1 n'))

pub nobody-gone : (xs : List Coming) (x : Obj) → is_scheduled xs x ≡ false → unscheduled xs x ≡ xs
nobody-gone [] x e = refl
nobody-gone (y ∷ ys) x e = by_test (same y.object x)
    (λ t. let bad : true ≡ false = rw t at e in cc)
    (λ t. let e' : is_scheduled ys x ≡ false = rw t at e in rw t (ap (λ (zs : List Coming). y ∷ zs) (nobody-gone ys x e')))

-- where one is absent, so is the same one under another name
pub absent-same : (xs : List Coming) (y x : Obj) → same y x ≡ true → is_scheduled xs y ≡ false → is_scheduled xs x ≡ false
absent-same xs y x t e = ap (is_scheduled xs) (sym (same-true y x t)) ∙ e

pub length-gone : (xs : List Coming) (x : Obj) → AreOnce xs → is_scheduled xs x ≡ true → length (unscheduled xs x) + 1 ≡ length xs
length-gone [] x a e = let bad : true ≡ false = sym e in cc
length-gone (y ∷ ys) x a e = by_test (same y.object x)
    (λ t. rw t (let same_rest = ap (λ (zs : List Coming). length zs) (nobody-gone ys x (absent-same ys y.object x t a.0)) in omega (arith, same_rest)))
    (λ t. let e' : is_scheduled ys x ≡ true = rw t at e in let ih = length-gone ys x a.1 e' in rw t (omega (arith, ih)))

-- the first one goes
pub first-gone : (xs : List Coming) (x : Obj) → AreOnce xs → option_map object_of (first xs) ≡ Some x → unscheduled xs x ≡ drop 1 xs
first-gone [] x a e = cc
first-gone (y ∷ ys) x a e =
    let yx : y.object ≡ x = cc in
    let t : same y.object x ≡ true = same-equal y.object x yx in
    rw t (nobody-gone ys x (ap (is_scheduled ys) (sym yx) ∙ a.0))
