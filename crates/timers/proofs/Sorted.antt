-- The times in their order, wherever the heap has them.
use Rattle.std.proofs.Common.{◌≡◌, ℕ, zero, suc, List, [], ◌∷◌, ◌++◌, length, set, slice_get, Option, Some, Bool, true, false, nat_eq, is_some, refl, sym, ◌∙◌, ap}
use Rattle.std.proofs.lemmas.Bool.{eqb-true, eq-eqb}
use Rattle.std.proofs.lemmas.List.{length-set}
use Rattle.std.specs.List.{find}
use Rattle.tree_specs.specs.declared.due.Due.{Due}
use Rattle.tree_specs.specs.Words.Objects.{same}
use Rattle.tree_specs.specs.Events.Pending.{is_numbered, comes_before, put_in}
use Rattle.tree_specs.proofs.Tree.Numbered.{by_test}
use Rattle.timers.specs.Timetable.{NoneBefore, AreInOrder, AreOnce}
use Rattle.timers.specs.Heaped.{sorted, by_number, Told, Reorders}
use Rattle.timers.proofs.Comes.{one-number, none-put, order-put, length-put, found-put, put-both, once-put}

-- ---- what is told of each

module _ (N : ℕ → Option Due) where
  pub one-due : (d e : Due) → N d.number ≡ Some d → N e.number ≡ Some e → d.number ≡ e.number → d ≡ e
  one-due d e h k n = let s : Some d ≡ Some e = sym h ∙ ap N n ∙ k in cc

  pub told-at : (ds : List Due) (k : ℕ) (d : Due) → Told N ds → slice_get ds k ≡ Some d → N d.number ≡ Some d
  told-at [] k d t e = cc
  told-at (f ∷ fs) zero d t e = let fd : f ≡ d = cc in ap (λ (g : Due). N g.number) (sym fd) ∙ t.0 ∙ e
  told-at (f ∷ fs) (suc k) d t e = told-at fs k d t.1 e

  pub told-set : (ds : List Due) (k : ℕ) (d : Due) → Told N ds → N d.number ≡ Some d → Told N (set ds k d)
  told-set [] k d t h = tt
  told-set (f ∷ fs) zero d t h = (h, t.1)
  told-set (f ∷ fs) (suc k) d t h = (t.0, told-set fs k d t.1 h)

  pub told-append : (ds : List Due) (d : Due) → Told N ds → N d.number ≡ Some d → Told N (ds ++ d ∷ [])
  told-append [] d t h = (h, tt)
  told-append (f ∷ fs) d t h = (t.0, told-append fs d t.1 h)

  pub told-front : (ds es : List Due) → Told N (ds ++ es) → Told N ds
  told-front [] es t = tt
  told-front (f ∷ fs) es t = (t.0, told-front fs es t.1)

  pub told-last : (ds : List Due) (d : Due) → Told N (ds ++ d ∷ []) → N d.number ≡ Some d
  told-last [] d t = t.0
  told-last (f ∷ fs) d t = told-last fs d t.1

  told-put : (d : Due) (es : List Due) → Told N es → N d.number ≡ Some d → Told N (put_in d es)
  told-put d [] t h = (h, tt)
  told-put d (e ∷ es) t h = by_test (comes_before d e) (λ u. rw u (h, t)) (λ u. rw u (t.0, told-put d es t.1 h))

  pub told-sorted : (ds : List Due) → Told N ds → Told N (sorted ds)
  told-sorted [] t = tt
  told-sorted (d ∷ ds) t = told-put d (sorted ds) (told-sorted ds t.1) t.0

  -- one is put in for another one
  pub sorted-exchange : (ds : List Due) (k : ℕ) (a b : Due) → Told N ds → N a.number ≡ Some a → slice_get ds k ≡ Some b → put_in b (sorted (set ds k a)) ≡ put_in a (sorted ds)
  sorted-exchange [] k a b t h e = cc
  sorted-exchange (f ∷ fs) zero a b t h e =
      let fb : f ≡ b = cc in
      let hb : N b.number ≡ Some b = ap (λ (g : Due). N g.number) (sym fb) ∙ t.0 ∙ e in
      put-both b a (one-due b a hb h) (sorted fs) ∙ ap (λ (g : Due). put_in a (put_in g (sorted fs))) (sym fb)
  sorted-exchange (f ∷ fs) (suc k) a b t h e =
      put-both b f (one-due b f (told-at fs k b t.1 e) t.0) (sorted (set fs k a))
      ∙ ap (put_in f) (sorted-exchange fs k a b t.1 h e)
      ∙ put-both f a (one-due f a t.0 h) (sorted fs)

  sorted-swap : (ds : List Due) (i j : ℕ) (a b : Due) → Told N ds → slice_get ds i ≡ Some a → slice_get ds j ≡ Some b → sorted (set (set ds i b) j a) ≡ sorted ds
  sorted-swap [] i j a b t e f = cc
  sorted-swap (x ∷ xs) zero zero a b t e f = let s : a ≡ x = cc in ap (λ (g : Due). put_in g (sorted xs)) s
  sorted-swap (x ∷ xs) zero (suc j) a b t e f =
      let s : a ≡ x = cc in
      sorted-exchange xs j a b t.1 (ap (λ (g : Due). N g.number) s ∙ t.0 ∙ e) f ∙ ap (λ (g : Due). put_in g (sorted xs)) s
  sorted-swap (x ∷ xs) (suc i) zero a b t e f =
      let s : b ≡ x = cc in
      sorted-exchange xs i b a t.1 (ap (λ (g : Due). N g.number) s ∙ t.0 ∙ f) e ∙ ap (λ (g : Due). put_in g (sorted xs)) s
  sorted-swap (x ∷ xs) (suc i) (suc j) a b t e f = ap (put_in x) (sorted-swap xs i j a b t.1 e f)

  pub sorted-append : (ds : List Due) (d : Due) → Told N ds → N d.number ≡ Some d → sorted (ds ++ d ∷ []) ≡ put_in d (sorted ds)
  sorted-append [] d t h = refl
  sorted-append (f ∷ fs) d t h = ap (put_in f) (sorted-append fs d t.1 h) ∙ put-both f d (one-due f d t.0 h) (sorted fs)

  -- the one that none comes before is the first
  pub first-sorted : (r : Due) (ds : List Due) → Told N (r ∷ ds) → NoneBefore r ds → slice_get (sorted (r ∷ ds)) 0 ≡ Some r
  first-sorted r ds t n = go (sorted ds) (told-sorted ds t.1) (all ds n)
    where
      all : (ds : List Due) → NoneBefore r ds → NoneBefore r (sorted ds)
      all [] n = tt
      all (d ∷ ds) n = none-put d r (sorted ds) n.0 (all ds n.1)

      go : (es : List Due) → Told N es → NoneBefore r es → slice_get (put_in r es) 0 ≡ Some r
      go [] u n = refl
      go (e ∷ es) u n = by_test (comes_before r e)
          (λ w. rw w refl)
          (λ w. rw w (ap Some (sym (one-due r e t.0 u.0 (one-number r e w n.0)))))

-- who else tells them
told-map : (L M N : ℕ → Option Due) → ((e : Due) → L e.number ≡ Some e → M e.number ≡ Some e → N e.number ≡ Some e) → (ds : List Due) → Told L ds → Told M ds → Told N ds
told-map L M N h [] t u = tt
told-map L M N h (d ∷ ds) t u = (h d t.0 u.0, told-map L M N h ds t.1 u.1)

-- they tell themselves
pub told-own : (N : ℕ → Option Due) (ds : List Due) → Told N ds → Told (by_number ds) ds
told-own N [] t = tt
told-own N (d ∷ ds) t =
    let self : nat_eq d.number d.number ≡ true = eq-eqb d.number d.number refl in (
      rw self refl,
      told-map N (by_number ds) (by_number (d ∷ ds)) (λ e h k. by_test (nat_eq d.number e.number)
          (λ u. rw u (ap Some (one-due N d e t.0 h (eqb-true d.number e.number u))))
          (λ u. rw u k)) ds t.1 (told-own N ds t.1),
    )

-- one more with a number that none has
pub told-more : (ds : List Due) (d : Due) → Told (by_number ds) ds → is_numbered ds d.number ≡ false → (N : ℕ → Option Due) × Told N ds × (N d.number ≡ Some d)
told-more ds d t n = (
  by_number (d ∷ ds),
  told-map (by_number ds) (by_number ds) (by_number (d ∷ ds)) (λ e h k. by_test (nat_eq d.number e.number)
      (λ u. let bad : true ≡ false = sym (ap is_some (ap (by_number ds) (eqb-true d.number e.number u) ∙ h)) ∙ n in cc)
      (λ u. rw u k)) ds t t,
  (let self : nat_eq d.number d.number ≡ true = eq-eqb d.number d.number refl in rw self refl),
)

-- ---- other places

pub reorders-both : (ds es fs : List Due) → Reorders ds es → Reorders es fs → Reorders ds fs
reorders-both ds es fs r s = record {
  count = s.count ∙ r.count;
  order = λ N t. s.order N (r.told N t) ∙ r.order N t;
  told = λ N t. s.told N (r.told N t);
}

pub reorders-swap : (ds : List Due) (i j : ℕ) (a b : Due) → slice_get ds i ≡ Some a → slice_get ds j ≡ Some b → Reorders ds (set (set ds i b) j a)
reorders-swap ds i j a b e f = record {
  count = length-set (set ds i b) j a ∙ length-set ds i b;
  order = λ N t. sorted-swap N ds i j a b t e f;
  told = λ N t. told-set N (set ds i b) j a (told-set N ds i b t (told-at N ds j b t f)) (told-at N ds i a t e);
}

-- ---- in order

pub order-sorted : (ds : List Due) → AreInOrder (sorted ds)
order-sorted [] = tt
order-sorted (d ∷ ds) = order-put d (sorted ds) (order-sorted ds)

pub length-sorted : (ds : List Due) → length (sorted ds) ≡ length ds
length-sorted [] = refl
length-sorted (d ∷ ds) = length-put d (sorted ds) ∙ ap suc (length-sorted ds)

pub found-sorted : (q : Due → Bool) (ds : List Due) → is_some (find q (sorted ds)) ≡ is_some (find q ds)
found-sorted q [] = refl
found-sorted q (d ∷ ds) = found-put q d (sorted ds) ∙ by_test (q d) (λ t. rw t refl) (λ t. rw t (found-sorted q ds))

pub once-sorted : (ds : List Due) → AreOnce ds → AreOnce (sorted ds)
once-sorted [] a = tt
once-sorted (d ∷ ds) a = once-put d (sorted ds) (once-sorted ds a.1) (found-sorted (λ e. same e.object d.object) ds ∙ a.0)
