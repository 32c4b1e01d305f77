-- Which descriptors are open after one is opened or closed.
use Rattle.std.proofs.Common.{◌≡◌, ℕ, nat_eq, eq-eqb, true, false, cond, not, Some, None, is_some, refl, sym, ap, ◌∙◌}
use Rattle.std.specs.Ordering.{nat_cmp, eq_by_cmp, is_eq}
use Rattle.std.specs.Cmp.{nat_cmp_total, unsigned_tied, alike_right, eq_by_cmp_equiv}
use Rattle.std.specs.FinMap.Entries.{find, find-put, find-where_key}
use Rattle.tree_specs.specs.Events.Descriptors.{Descriptors, is_open_in, opened, closed}
use Rattle.tree_specs.proofs.Tree.Numbered.{by_test}

of-opened : (ds : Descriptors) (fd g : ℕ) → is_open_in (opened ds fd) g ≡ is_some (cond (nat_eq g fd) (Some tt) (find nat_cmp g ds))
of-opened ds fd g = ap is_some (find-put nat_cmp nat_cmp_total g fd tt ds ∙ ap (λ b. cond b (Some tt) (find nat_cmp g ds)) (unsigned_tied g fd))

-- what is opened is open
pub opened-same : (ds : Descriptors) (fd : ℕ) → is_open_in (opened ds fd) fd ≡ true
opened-same ds fd = of-opened ds fd fd ∙ rw (eq-eqb fd fd refl) refl

-- what was open stays so
pub opened-still : (ds : Descriptors) (fd g : ℕ) → is_open_in ds g ≡ true → is_open_in (opened ds fd) g ≡ true
opened-still ds fd g h = of-opened ds fd g ∙ by_test (nat_eq g fd) (λ t. rw t refl) (λ t. rw t h)

-- what is closed is no other one
pub closed-other : (ds : Descriptors) (fd g : ℕ) → nat_eq g fd ≡ false → is_open_in (closed ds fd) g ≡ is_open_in ds g
closed-other ds fd g t = ap is_some (
    find-where_key nat_cmp (λ k. not (eq_by_cmp nat_cmp fd k)) g (λ k t. ap (λ r. not (is_eq r)) (sym (alike_right nat_cmp_total g k fd t))) ds
    ∙ ap (λ b. cond (not b) (find nat_cmp g ds) None) ((eq_by_cmp_equiv nat_cmp_total).symm fd g ∙ unsigned_tied g fd ∙ t))
