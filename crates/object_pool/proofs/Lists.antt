-- Which contexts have a place for all that may come in them, where one is added or dropped.
use Rattle.std.proofs.Common.{◌≡◌, ℕ, ◌≤◌, Bool, true, false, ◌&&◌, ◌||◌, not, cond, List, Some, min, refl, sym, ap, ◌∙◌, arith}
use Rattle.tree_specs.specs.declared.object.Obj.{Obj}
use Rattle.tree_specs.specs.Words.Objects.{same, first_context}
use Rattle.tree_specs.specs.Events.Contexts.{has_context, with_context, without_context}
use Rattle.tree_specs.proofs.Events.KnownContexts.{added, closed-first, closed-other}
use Rattle.tree_specs.proofs.Tree.Numbered.{by_test, same-equal}
use Rattle.object_pool.specs.Upcoming.{Agenda, holds_context, is_other, KeepsAllBut}

-- ---- all three of them

both : (a b : Bool) → (a && b) ≡ true → (a ≡ true) × (b ≡ true)
both true true e = (refl, refl)
both true false e = cc
both false b e = cc

all-three : (a b c : Bool) → a ≡ true → b ≡ true → c ≡ true → (a && (b && c)) ≡ true
all-three a b c x y z = rw (x, y, z) refl

-- what holds of each list holds of all
pub holds-each : (a b : Agenda) (c : Obj) → (has_context a.soon_contexts c ≡ true → has_context b.soon_contexts c ≡ true)
    → (has_context a.times_contexts c ≡ true → has_context b.times_contexts c ≡ true) → (has_context a.ring_contexts c ≡ true → has_context b.ring_contexts c ≡ true)
    → holds_context a c ≡ true → holds_context b c ≡ true
holds-each a b c soon times ring h =
    let first = both _ _ h in
    let rest = both _ _ first.1 in
    all-three _ _ _ (soon first.0) (times rest.0) (ring rest.1)

-- ---- one that is added

pub has-added : (cs : List Obj) (c : Obj) → has_context (with_context cs c) c ≡ true
has-added cs c = let t : same c c ≡ true = same-equal c c refl in added cs c c ∙ ap (λ b. b || has_context cs c) t

pub has-still : (cs : List Obj) (c d : Obj) → has_context cs d ≡ true → has_context (with_context cs c) d ≡ true
has-still cs c d h = added cs c d ∙ ap (λ b. same c d || b) h ∙ either (same c d)
  where
    either : (b : Bool) → (b || true) ≡ true
    either true = refl
    either false = refl

-- ---- one that is dropped

pub has-other : (cs : List Obj) (x d : Obj) → same x d ≡ false → has_context cs d ≡ true → has_context (without_context cs x) d ≡ true
has-other cs x d apart h = by_test (same x first_context)
    (λ t. closed-first cs x d t ∙ h)
    (λ t. closed-other cs x d t ∙ ap (λ b. cond b false (has_context cs d)) apart ∙ h)

negated : (b : Bool) → not b ≡ true → b ≡ false
negated false e = refl
negated true e = cc

pub keeps-dropped : (x : Obj) (a b : Agenda) → b.soon_contexts ≡ without_context a.soon_contexts x → b.times_contexts ≡ without_context a.times_contexts x → b.ring_contexts ≡ without_context a.ring_contexts x
    → a.contexts_spare ≤ b.contexts_spare → KeepsAllBut (Some x) a b
keeps-dropped x a b soon times ring spare = record {
  held = λ d other. (let apart = negated (same x d) other in holds-each a b d
      (λ h. rw soon (has-other a.soon_contexts x d apart h))
      (λ h. rw times (has-other a.times_contexts x d apart h))
      (λ h. rw ring (has-other a.ring_contexts x d apart h)));
  spare = spare;
}

-- the least of three is no less where none of them is
pub least : (a b c a' b' c' : ℕ) → a ≤ a' → b ≤ b' → c ≤ c' → min a (min b c) ≤ min a' (min b' c')
least a b c a' b' c' p q r = omega (arith, p, q, r)
