-- The heir of a child is another owner that may take it.
use Rattle.std.proofs.Common.{◌≡◌, ◌≢◌, ℕ, zero, suc, List, length, Option, Some, None, Bool, true, false, ◌&&◌, not, refl, sym, ap, ◌∙◌}
use Rattle.tree_specs.specs.declared.object.Obj.{Obj}
use Rattle.tree_specs.specs.declared.object.Owner.{Owner}
use Rattle.tree_specs.specs.declared.object.Owner.TheVariants.{Root, Of}
use Rattle.tree_specs.specs.declared.row.Row.{Row}
use Rattle.tree_specs.specs.declared.row.Mark.{Mark}
use Rattle.tree_specs.specs.declared.row.Mark.TheVariants.{Quiet, Asked, Busy, Doomed, Dying}
use Rattle.tree_specs.specs.Words.Objects.{same}
use Rattle.tree_specs.specs.Tree.Pool.{row_of, is_object, is_owner, reaches, is_inside}
use Rattle.tree_specs.specs.Tree.Heirs.{former_by, former_in, former_of, may_take, former_taker, heir}
use Rattle.tree_specs.specs.Invariants.Sound.{Shaped, ValidAt}
use Rattle.tree_specs.proofs.Tree.Numbered.{by_test, same-equal}

-- an owner that may take c
pub record MayTake (rs : List Row) (c : Obj) (o : Owner) : Type 0 where
  pub apart : o ≢ Of c
  pub there : is_owner rs o ≡ true
  pub outside : is_inside rs o (Of c) ≡ false

-- nothing but the root is inside no object
root-outside : (rs : List Row) (c : Obj) → is_inside rs Root (Of c) ≡ false
root-outside rs c = within (length rs)
  where
    within : (n : ℕ) → reaches n rs (Some Root) (Of c) ≡ false
    within zero = refl
    within (suc n) = refl

root-takes : (rs : List Row) (c : Obj) → MayTake rs c Root
root-takes rs c = record { apart = λ e. cc; there = refl; outside = root-outside rs c }

self-inside : (rs : List Row) (c : Obj) → is_inside rs (Of c) (Of c) ≡ true
self-inside rs c = within (length rs)
  where
    self : same c c ≡ true
    self = same-equal c c refl

    within : (n : ℕ) → reaches n rs (Some (Of c)) (Of c) ≡ true
    within zero = self
    within (suc n) = rw self refl

both : (a b : Bool) → (a && not b) ≡ true → (a ≡ true) × (b ≡ false)
both true true e = cc
both true false e = (refl, refl)
both false b e = cc

takes : (rs : List Row) (c : Obj) (o : Owner) → may_take rs c o ≡ true → MayTake rs c o
takes rs c Root e = root-takes rs c
takes rs c (Of y) e =
    let b = both (is_object rs y) (is_inside rs (Of y) (Of c)) e in
    record {
      apart = λ q. (let i : is_inside rs (Of y) (Of c) ≡ true = rw q (self-inside rs c) in let bad : true ≡ false = sym i ∙ b.1 in cc);
      there = b.0;
      outside = b.1;
    }

former-takes : (rs : List Row) (x c : Obj) → MayTake rs c (former_taker rs x c)
former-takes rs x c = by_test (may_take rs c (former_of rs x))
    (λ t. rw t (takes rs c (former_of rs x) t))
    (λ t. rw t (root-takes rs c))

pub heir-may_take : (rs : List Row) (x c : Obj) (noted : Option Owner) → MayTake rs c (heir rs x c noted)
heir-may_take rs x c None = former-takes rs x c
heir-may_take rs x c (Some Root) = former-takes rs x c
heir-may_take rs x c (Some (Of y)) = by_test (may_take rs c (Of y))
    (λ t. rw t (takes rs c (Of y) t))
    (λ t. rw t (former-takes rs x c))

former-other : (m : Mark) (o : Option Owner) (x : Obj) → Shaped m o x → former_by m o ≢ Of x
former-other Quiet None x s = absurd s
former-other Asked None x s = absurd s
former-other Busy None x s = absurd s
former-other Doomed None x s = absurd s
former-other (Dying former) (Some o) x s = absurd s
former-other _ _ x s = s

-- the heir of a child isn't the object that it leaves, where that wasn't noted
pub heir-other : (rs : List Row) (next : ℕ) (x c : Obj) (noted : Option Owner) → ValidAt next (row_of rs x) x → noted ≢ Some (Of x) → heir rs x c noted ≢ Of x
heir-other rs next x c noted v not_noted = each noted not_noted
  where
    former : (q : Option Row) → ValidAt next q x → former_in q ≢ Of x
    former None v = λ e. cc
    former (Some r) v = former-other r.mark r.owner x v.2

    taker : former_taker rs x c ≢ Of x
    taker = by_test (may_take rs c (former_of rs x)) (λ t. rw t (former (row_of rs x) v)) (λ t. rw t (λ e. cc))

    each : (noted : Option Owner) → noted ≢ Some (Of x) → heir rs x c noted ≢ Of x
    each None n = taker
    each (Some Root) n = taker
    each (Some (Of y)) n = by_test (may_take rs c (Of y)) (λ t. rw t (λ e. n (ap Some e))) (λ t. rw t taker)
