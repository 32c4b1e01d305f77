-- Which contexts there are once one is added or dropped, and that what is kept for each follows.
use Rattle.std.proofs.Common.{◌≡◌, ℕ, Bool, true, false, cond, ◌||◌, nat_eq, List, [], ◌∷◌, Option, Some, None, is_some, refl, sym, ap, ◌∙◌}
use Rattle.std.proofs.lemmas.Bool.{eqb-true}
use Rattle.std.specs.List.{find}
use Rattle.tree_specs.specs.declared.object.Obj.{Obj}
use Rattle.tree_specs.specs.Words.Objects.{same, first_context}
use Rattle.tree_specs.specs.Events.Contexts.{has_context, with_context, without_context}
use Rattle.tree_specs.proofs.Tree.Numbered.{by_test, same-true, same-equal}

-- ---- one that is added

pub opened : (cs : List Obj) (c d : Obj) → has_context (c ∷ cs) d ≡ (same c d || has_context cs d)
opened cs c d = by_test (same c d)
    (λ t. rw t (by_test (same first_context d) (λ u. rw u refl) (λ u. rw u refl)))
    (λ t. rw t refl)

-- what callers need of a context that is added
pub added : (cs : List Obj) (c d : Obj) → has_context (with_context cs c) d ≡ (same c d || has_context cs d)
added cs c d = by_test (has_context cs c)
    (λ t. ap (λ b. has_context (cond b cs (c ∷ cs)) d) t ∙ by_test (same c d)
    (λ u. ap (has_context cs) (sym (same-true c d u)) ∙ t ∙ sym (ap (λ b. b || has_context cs d) u))
    (λ u. sym (ap (λ b. b || has_context cs d) u)))
    (λ t. ap (λ b. has_context (cond b cs (c ∷ cs)) d) t ∙ opened cs c d)

-- ---- one that is dropped

closed-beside : (cs : List Obj) (c d : Obj) → is_some (find (λ e. same e d) (without_context cs c)) ≡ cond (same c d) false (is_some (find (λ e. same e d) cs))
closed-beside [] c d = by_test (same c d) (λ t. rw t refl) (λ t. rw t refl)
closed-beside (b ∷ bs) c d = by_test (same b c)
    (λ t. rw t (closed-beside bs c d ∙ by_test (same c d)
    (λ u. rw u refl)
    (λ u. let n : same b d ≡ false = ap (λ (k : ℕ). nat_eq k d.0) (eqb-true b.0 c.0 t) ∙ u in rw (u, n) refl)))
    (λ t. rw t (by_test (same b d)
    (λ u. by_test (same c d)
    (λ w. let s : same b c ≡ true = same-equal b c (same-true b d u ∙ sym (same-true c d w)) in let bad : true ≡ false = sym s ∙ t in cc)
    (λ w. rw (u, w) refl))
    (λ u. rw u (closed-beside bs c d))))

-- the first one stays
pub closed-first : (cs : List Obj) (c d : Obj) → same c first_context ≡ true → has_context (without_context cs c) d ≡ has_context cs d
closed-first cs c d t = by_test (same first_context d)
    (λ u. rw u refl)
    (λ u. let n : same c d ≡ false = ap (λ (b : ℕ). nat_eq b d.0) (eqb-true c.0 0 t) ∙ u in
    rw u (closed-beside cs c d ∙ ap (λ b. cond b false (is_some (find (λ e. same e d) cs))) n))

-- another one goes
pub closed-other : (cs : List Obj) (c d : Obj) → same c first_context ≡ false → has_context (without_context cs c) d ≡ cond (same c d) false (has_context cs d)
closed-other cs c d t = by_test (same c d)
    (λ u. let n : same first_context d ≡ false = by_test (same first_context d)
    (λ w. let s : same c first_context ≡ true = same-equal c first_context (same-true c d u ∙ sym (same-true first_context d w)) in let bad : true ≡ false = sym s ∙ t in cc)
    (λ w. w) in
    ap (λ b. b || is_some (find (λ e. same e d) (without_context cs c))) n ∙ closed-beside cs c d ∙ ap (λ b. cond b false (is_some (find (λ e. same e d) cs))) u
    ∙ sym (ap (λ b. cond b false (has_context cs d)) u))
    (λ u. ap (λ b. same first_context d || b) (closed-beside cs c d ∙ ap (λ b. cond b false (is_some (find (λ e. same e d) cs))) u)
    ∙ sym (ap (λ b. cond b false (has_context cs d)) u))

-- ---- what is kept for each, under its number

module _ {X : Type 0} (K K' : ℕ → Option X) (cs : List Obj) (kept : (d : Obj) → is_some (K d.0) ≡ has_context cs d) (c : Obj) where
  pub opened-kept : (x : X) → ((d : ℕ) → K' d ≡ cond (nat_eq c.0 d) (Some x) (K d)) → (d : Obj) → is_some (K' d.0) ≡ has_context (c ∷ cs) d
  opened-kept x new d = ap is_some (new d.0) ∙ by_test (same c d)
      (λ t. ap (λ b. is_some (cond b (Some x) (K d.0))) t ∙ sym (opened cs c d ∙ ap (λ b. b || has_context cs d) t))
      (λ t. ap (λ b. is_some (cond b (Some x) (K d.0))) t ∙ kept d ∙ sym (opened cs c d ∙ ap (λ b. b || has_context cs d) t))

  pub closed-kept : same c first_context ≡ false → ((d : ℕ) → K' d ≡ cond (nat_eq c.0 d) None (K d)) → (d : Obj) → is_some (K' d.0) ≡ has_context (without_context cs c) d
  closed-kept t gone d = ap is_some (gone d.0) ∙ some_unless (same c d) (K d.0) ∙ ap (cond (same c d) false) (kept d) ∙ sym (closed-other cs c d t)
    where
      some_unless : (b : Bool) (o : Option X) → is_some (cond b None o) ≡ cond b false (is_some o)
      some_unless true o = refl
      some_unless false o = refl

  pub closed-first-kept : same c first_context ≡ true → ((d : ℕ) → K' d ≡ K d) → (d : Obj) → is_some (K' d.0) ≡ has_context (without_context cs c) d
  closed-first-kept t same_ones d = ap is_some (same_ones d.0) ∙ kept d ∙ sym (closed-first cs c d t)
