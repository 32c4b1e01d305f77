-- What is kept of an object, and of one item more.
use Rattle.std.proofs.Common.{◌≡◌, ℕ, Bool, true, false, cond, leb, ◌&&◌, ◌||◌, Option, Some, refl}
use Rattle.tree_specs.specs.declared.object.Obj.{Obj}
use Rattle.tree_specs.specs.Words.Objects.{same}
use Rattle.tree_specs.proofs.Tree.Numbered.{same-true}
use Rattle.transcript_audit.specs.declared.seen.Seen.{Seen}
use Rattle.transcript_lines.specs.declared.said.Fact.TheVariants as facts
use Rattle.transcript_audit.specs.Kept.{seen_after}
use Rattle.transcript_audit.specs.Audits.{seen_where}

or_nothing : (a : Bool) → a ≡ (a || false)
or_nothing true = refl
or_nothing false = refl

or_true : (a : Bool) → true ≡ (a || true)
or_true true = refl
or_true false = refl

-- ---- one record

pub kept_where : (b : Bool) (s : Seen) (o : Option Seen) → seen_where (cond b (Some s) o) ≡ cond b s (seen_where o)
kept_where true s o = refl
kept_where false s o = refl

five : (a b c d e f g h i j : Bool) → a ≡ f → b ≡ g → c ≡ h → d ≡ i → e ≡ j
    → (let s : Seen = record { accepted = a; freed = b; dropped = c; over = d; received = e } in s) ≡ record { accepted = f; freed = g; dropped = h; over = i; received = j }
five a b c d e f g h i j p q r s t = rw (p, q, r, s, t) refl

unchanged : (s : Seen) → s ≡ record { accepted = s.accepted || false; freed = s.freed || false; dropped = s.dropped || false; over = s.over || false; received = s.received || false }
unchanged s = five s.accepted s.freed s.dropped s.over s.received _ _ _ _ _ (or_nothing s.accepted) (or_nothing s.freed) (or_nothing s.dropped) (or_nothing s.over) (or_nothing s.received)

module _ (f : Obj → Seen) (x y : Obj) where
  pub accepted_kept : cond (same x y) (record (f x) { accepted = true }) (f y) ≡ seen_after (facts.Accepts x) y (f y)
  accepted_kept = by_test (same x y) refl
    where
      by_test : (b : Bool) → same x y ≡ b → cond b (record (f x) { accepted = true }) (f y)
          ≡ record { accepted = (f y).accepted || b; freed = (f y).freed || false; dropped = (f y).dropped || false; over = (f y).over || false; received = (f y).received || false }
      by_test true h = rw (same-true x y h) (five _ _ _ _ _ _ _ _ _ _ (or_true (f y).accepted) (or_nothing (f y).freed) (or_nothing (f y).dropped) (or_nothing (f y).over) (or_nothing (f y).received))
      by_test false h = unchanged (f y)

  pub freed_kept : cond (same x y) (record (f x) { freed = true }) (f y) ≡ seen_after (facts.Frees x 0) y (f y)
  freed_kept = by_test (same x y) refl
    where
      by_test : (b : Bool) → same x y ≡ b → cond b (record (f x) { freed = true }) (f y)
          ≡ record { accepted = (f y).accepted || false; freed = (f y).freed || b; dropped = (f y).dropped || false; over = (f y).over || false; received = (f y).received || false }
      by_test true h = rw (same-true x y h) (five _ _ _ _ _ _ _ _ _ _ (or_nothing (f y).accepted) (or_true (f y).freed) (or_nothing (f y).dropped) (or_nothing (f y).over) (or_nothing (f y).received))
      by_test false h = unchanged (f y)

  pub dropped_kept : cond (same x y) (record (f x) { dropped = true }) (f y) ≡ seen_after (facts.Drops x x) y (f y)
  dropped_kept = by_test (same x y) refl
    where
      by_test : (b : Bool) → same x y ≡ b → cond b (record (f x) { dropped = true }) (f y)
          ≡ record { accepted = (f y).accepted || false; freed = (f y).freed || false; dropped = (f y).dropped || b; over = (f y).over || false; received = (f y).received || false }
      by_test true h = rw (same-true x y h) (five _ _ _ _ _ _ _ _ _ _ (or_nothing (f y).accepted) (or_nothing (f y).freed) (or_true (f y).dropped) (or_nothing (f y).over) (or_nothing (f y).received))
      by_test false h = unchanged (f y)

  pub state_kept : (k : ℕ) → cond (same x y) (record (f x) { over = (f x).over || leb 2 k; received = (f x).received || leb 6 k }) (f y) ≡ seen_after (facts.Sets x k) y (f y)
  state_kept k = by_test (same x y) refl
    where
      by_test : (b : Bool) → same x y ≡ b → cond b (record (f x) { over = (f x).over || leb 2 k; received = (f x).received || leb 6 k }) (f y)
          ≡ record { accepted = (f y).accepted || false; freed = (f y).freed || false; dropped = (f y).dropped || false; over = (f y).over || (b && leb 2 k); received = (f y).received || (b && leb 6 k) }
      by_test true h = rw (same-true x y h) (five _ _ _ _ _ _ _ _ _ _ (or_nothing (f y).accepted) (or_nothing (f y).freed) (or_nothing (f y).dropped) refl refl)
      by_test false h = unchanged (f y)

-- what says nothing of an object
pub nothing_kept : (s : Seen) → s ≡ record { accepted = s.accepted || false; freed = s.freed || false; dropped = s.dropped || false; over = s.over || false; received = s.received || false }
nothing_kept s = unchanged s
