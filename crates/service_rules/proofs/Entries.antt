-- Entries by their numbers: what is found after a change.
use Rattle.std.proofs.Common.{◌≡◌, ℕ, Bool, true, false, T, ◌&&◌, cond, List, [], ◌∷◌, map, Option, Some, None, refl, sym, ◌∙◌, ap, subst}
use Rattle.std.specs.List.{list_all}
use Rattle.std.specs.Ordering.{nat_cmp, eq_by_cmp, is_lt, is_eq}
use Rattle.std.specs.declared.cmp.Ordering.{Ordering}
use Rattle.std.specs.declared.cmp.Ordering.TheVariants.{Less, Equal, Greater}
use Rattle.std.specs.Cmp.{nat_cmp_total, unsigned_tied, tied_itself}
use Rattle.std.specs.FinMap.Entries.{find, put, is_sorted, below_all, find-put}
use Rattle.std.proofs.lemmas.Bool.{eqb-true}
use Rattle.tree_specs.specs.declared.object.Obj.{Obj}
use Rattle.tree_specs.proofs.Tree.Numbered.{by_test}
use Rattle.service_rules.specs.Knowledge.{without}

pub same-number : (a b : ℕ) → eq_by_cmp nat_cmp a b ≡ true → a ≡ b
same-number a b t = eqb-true a b (sym (unsigned_tied a b) ∙ t)

pub itself : (a : ℕ) → eq_by_cmp nat_cmp a a ≡ true
itself a = ap is_eq (tied_itself nat_cmp_total a)

module _ {A : Type 0} where
  pub found-put : (k : ℕ) (v : A) (es : List (ℕ × A)) → find nat_cmp k (put nat_cmp k v es) ≡ Some v
  found-put k v es = find-put nat_cmp nat_cmp_total k k v es ∙ ap (λ b. cond b (Some v) (find nat_cmp k es)) (itself k)

  pub found-other : (q k : ℕ) (v : A) (es : List (ℕ × A)) → eq_by_cmp nat_cmp q k ≡ false → find nat_cmp q (put nat_cmp k v es) ≡ find nat_cmp q es
  found-other q k v es t = find-put nat_cmp nat_cmp_total q k v es ∙ ap (λ b. cond b (Some v) (find nat_cmp q es)) t

  -- an object is not found without it
  pub found-gone : (q : ℕ) (x : Obj) (es : List (ℕ × A)) (v : A) → x.0 ≡ q → find nat_cmp q (without x es) ≡ Some v → ⊥
  found-gone q x [] v e h = cc
  found-gone q x (f ∷ fs) v e h = by_test (eq_by_cmp nat_cmp x.0 f.0)
      (λ u. let h' : find nat_cmp q (without x fs) ≡ Some v = rw u at h in found-gone q x fs v e h')
      (λ u. let h' : cond (eq_by_cmp nat_cmp q f.0) (Some f.1) (find nat_cmp q (without x fs)) ≡ Some v = rw u at h in
      let t : eq_by_cmp nat_cmp q f.0 ≡ false = subst (λ z. eq_by_cmp nat_cmp z f.0 ≡ false) e u in
      let h'' : find nat_cmp q (without x fs) ≡ Some v = rw t at h' in found-gone q x fs v e h'')

  -- and what is found was found with it
  pub found-without : (q : ℕ) (x : Obj) (es : List (ℕ × A)) (v : A) → find nat_cmp q (without x es) ≡ Some v → find nat_cmp q es ≡ Some v
  found-without q x [] v e = e
  found-without q x (f ∷ fs) v e = by_test (eq_by_cmp nat_cmp q f.0)
      (λ t. by_test (eq_by_cmp nat_cmp x.0 f.0)
      (λ u. let h : find nat_cmp q (without x fs) ≡ Some v = rw u at e in
      let i = found-without q x fs v h in
      absurd (found-gone q x fs v (same-number x.0 f.0 u ∙ sym (same-number q f.0 t)) h))
      (λ u. let h : cond (eq_by_cmp nat_cmp q f.0) (Some f.1) (find nat_cmp q (without x fs)) ≡ Some v = rw u at e in rw t (rw t at h)))
      (λ t. by_test (eq_by_cmp nat_cmp x.0 f.0)
      (λ u. let h : find nat_cmp q (without x fs) ≡ Some v = rw u at e in rw t (found-without q x fs v h))
      (λ u. let h : cond (eq_by_cmp nat_cmp q f.0) (Some f.1) (find nat_cmp q (without x fs)) ≡ Some v = rw u at e in
      let h' : find nat_cmp q (without x fs) ≡ Some v = rw t at h in rw t (found-without q x fs v h')))

  pub none-without : (q : ℕ) (x : Obj) (es : List (ℕ × A)) → find nat_cmp q es ≡ None → find nat_cmp q (without x es) ≡ None
  none-without q x es e = each (find nat_cmp q (without x es)) refl
    where
      each : (o : Option A) → find nat_cmp q (without x es) ≡ o → o ≡ None
      each None h = refl
      each (Some v) h = let k = found-without q x es v h in cc

  -- the same test of the entries at their own numbers, where these rise
  below-other : (k : ℕ) (es : List (ℕ × A)) (e : ℕ × A) → T (is_lt (nat_cmp k e.0)) → eq_by_cmp nat_cmp e.0 k ≡ true → ⊥
  below-other k es e l t = let s : k ≡ e.0 = sym (same-number e.0 k t) in
      let z : eq_by_cmp nat_cmp k e.0 ≡ true = subst (λ y. eq_by_cmp nat_cmp k y ≡ true) s (itself k) in apart (nat_cmp k e.0) l z
    where
      apart : (o : Ordering) → T (is_lt o) → is_eq o ≡ true → ⊥
      apart Less h q = cc
      apart Equal h q = absurd h
      apart Greater h q = absurd h

  all-below : (test : ℕ × A → Bool) (k : ℕ) (v : A) (es : List (ℕ × A)) → T (below_all nat_cmp k es) → ((q : ℕ) (w : A) → find nat_cmp q ((k, v) ∷ es) ≡ Some w → test (q, w) ≡ true) → (q : ℕ) (w : A) → find nat_cmp q es ≡ Some w → test (q, w) ≡ true
  all-below test k v es b h q w e = by_test (eq_by_cmp nat_cmp q k)
      (λ t. absurd (missing es b e (same-number q k t)))
      (λ t. h q w (ap (λ z. cond z (Some v) (find nat_cmp q es)) t ∙ e))
    where
      missing : (es : List (ℕ × A)) → T (below_all nat_cmp k es) → find nat_cmp q es ≡ Some w → q ≡ k → ⊥
      missing [] b e s = cc
      missing (f ∷ fs) b e s = by_test (eq_by_cmp nat_cmp q f.0)
          (λ t. let l : T (is_lt (nat_cmp k f.0)) = first (is_lt (nat_cmp k f.0)) _ b in
          let t' : eq_by_cmp nat_cmp f.0 k ≡ true = subst (λ z. eq_by_cmp nat_cmp z k ≡ true) (sym s ∙ same-number q f.0 t) (itself k) in below-other k fs f l t')
          (λ t. let e' : find nat_cmp q fs ≡ Some w = rw t at e in missing fs (second (is_lt (nat_cmp k f.0)) _ b) e' s)
        where
          first : (a c : Bool) → T (a && c) → T a
          first true c h = tt
          first false c h = absurd h

          second : (a c : Bool) → T (a && c) → T c
          second true c h = h
          second false c h = absurd h

  pub all-found : (test : ℕ × A → Bool) (es : List (ℕ × A)) → T (is_sorted nat_cmp es) → ((q : ℕ) (w : A) → find nat_cmp q es ≡ Some w → test (q, w) ≡ true) → list_all test es ≡ true
  all-found test [] s h = refl
  all-found test (e ∷ es) s h =
      let here : test e ≡ true = h e.0 e.1 (ap (λ b. cond b (Some e.1) (find nat_cmp e.0 es)) (itself e.0)) in
      let more : list_all test es ≡ true = all-found test es (second (below_all nat_cmp e.0 es) _ s) (all-below test e.0 e.1 es (first (below_all nat_cmp e.0 es) _ s) h) in
      rw here more
    where
      first : (a c : Bool) → T (a && c) → T a
      first true c h = tt
      first false c h = absurd h

      second : (a c : Bool) → T (a && c) → T c
      second true c h = h
      second false c h = absurd h

-- entries that are changed one by one, each at its own number
pub found-mapped : {A B : Type 0} (g : ℕ → A → B) (q : ℕ) (es : List (ℕ × A)) (v : A) → find nat_cmp q es ≡ Some v → find nat_cmp q (map (λ (e : ℕ × A). (e.0, g e.0 e.1)) es) ≡ Some (g q v)
found-mapped g q [] v e = cc
found-mapped {A = A} {B = B} g q (f ∷ fs) v e = by_test (eq_by_cmp nat_cmp q f.0)
    (λ t. let e' : Some f.1 ≡ Some v = rw t at e in
    let s : q ≡ f.0 = same-number q f.0 t in
    let w : f.1 ≡ v = cc in
    ap (λ b. cond b (Some (g f.0 f.1)) (find nat_cmp q (map (λ (e : ℕ × A). (e.0, g e.0 e.1)) fs))) t ∙ ap (λ z. Some (g z f.1)) (sym s) ∙ ap (λ z. Some (g q z)) w)
    (λ t. let e' : find nat_cmp q fs ≡ Some v = rw t at e in
    ap (λ b. cond b (Some (g f.0 f.1)) (find nat_cmp q (map (λ (e : ℕ × A). (e.0, g e.0 e.1)) fs))) t ∙ found-mapped g q fs v e')

pub none-mapped : {A B : Type 0} (g : ℕ → A → B) (q : ℕ) (es : List (ℕ × A)) → find nat_cmp q es ≡ None → find nat_cmp q (map (λ (e : ℕ × A). (e.0, g e.0 e.1)) es) ≡ None
none-mapped g q [] e = refl
none-mapped {A = A} {B = B} g q (f ∷ fs) e = by_test (eq_by_cmp nat_cmp q f.0)
    (λ t. let e' : Some f.1 ≡ None = rw t at e in cc)
    (λ t. let e' : find nat_cmp q fs ≡ None = rw t at e in
    ap (λ b. cond b (Some (g f.0 f.1)) (find nat_cmp q (map (λ (e : ℕ × A). (e.0, g e.0 e.1)) fs))) t ∙ none-mapped g q fs e')
