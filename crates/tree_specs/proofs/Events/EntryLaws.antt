-- What is kept by the numbers of objects, where one entry is put in or taken out.
use Rattle.std.proofs.Common.{◌≡◌, ℕ, Bool, true, false, cond, not, List, Option, Some, None, refl, sym, ap, ◌∙◌}
use Rattle.std.specs.List.{filter}
use Rattle.std.specs.Ordering.{nat_cmp, eq_by_cmp, is_eq}
use Rattle.std.specs.Cmp.{nat_cmp_total, unsigned_tied, alike_right, eq_by_cmp_equiv}
use Rattle.std.specs.FinMap.Entries.{find, put, find-put, find-where_key}
use Rattle.tree_specs.specs.declared.object.Obj.{Obj}
use Rattle.tree_specs.specs.Words.Objects.{same}

abbrev Entries : Type 0 → Type 0
Entries V = List (ℕ × V)

abbrev without_entry : {V : Type 0} → Entries V → Obj → Entries V
without_entry es x = filter (λ e. not (eq_by_cmp nat_cmp x.0 e.0)) es

found-with : {V : Type 0} (es : Entries V) (x y : Obj) (v : V) → find nat_cmp y.0 (put nat_cmp x.0 v es) ≡ cond (same y x) (Some v) (find nat_cmp y.0 es)
found-with es x y v = find-put nat_cmp nat_cmp_total y.0 x.0 v es ∙ ap (λ b. cond b (Some v) (find nat_cmp y.0 es)) (unsigned_tied y.0 x.0)

found-without : {V : Type 0} (es : Entries V) (x y : Obj) → find nat_cmp y.0 (without_entry es x) ≡ cond (same y x) None (find nat_cmp y.0 es)
found-without es x y =
    find-where_key nat_cmp (λ k. not (eq_by_cmp nat_cmp x.0 k)) y.0 (λ k t. ap (λ r. not (is_eq r)) (sym (alike_right nat_cmp_total y.0 k x.0 t))) es
    ∙ turned (eq_by_cmp nat_cmp x.0 y.0) (find nat_cmp y.0 es) ∙ ap (λ b. cond b None (find nat_cmp y.0 es)) ((eq_by_cmp_equiv nat_cmp_total).symm x.0 y.0 ∙ unsigned_tied y.0 x.0)
  where
    turned : {A : Type 0} (b : Bool) (o : Option A) → cond (not b) o None ≡ cond b None o
    turned true o = refl
    turned false o = refl

pub with-same : {V : Type 0} (es : Entries V) (x y : Obj) (v : V) → same y x ≡ true → find nat_cmp y.0 (put nat_cmp x.0 v es) ≡ Some v
with-same es x y v t = found-with es x y v ∙ ap (λ b. cond b (Some v) (find nat_cmp y.0 es)) t

pub with-other : {V : Type 0} (es : Entries V) (x y : Obj) (v : V) → same y x ≡ false → find nat_cmp y.0 (put nat_cmp x.0 v es) ≡ find nat_cmp y.0 es
with-other es x y v t = found-with es x y v ∙ ap (λ b. cond b (Some v) (find nat_cmp y.0 es)) t

pub without-same : {V : Type 0} (es : Entries V) (x y : Obj) → same y x ≡ true → find nat_cmp y.0 (without_entry es x) ≡ None
without-same es x y t = found-without es x y ∙ ap (λ b. cond b None (find nat_cmp y.0 es)) t

pub without-other : {V : Type 0} (es : Entries V) (x y : Obj) → same y x ≡ false → find nat_cmp y.0 (without_entry es x) ≡ find nat_cmp y.0 es
without-other es x y t = found-without es x y ∙ ap (λ b. cond b None (find nat_cmp y.0 es)) t
