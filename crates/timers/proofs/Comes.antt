-- What comes before what, and where a time is put in.
use Rattle.std.proofs.Common.{◌≡◌, suc, ◌||◌, List, [], ◌∷◌, length, Some, Bool, true, false, is_some, slice_get, drop, subst, refl, sym, ◌∙◌, ap, arith}
use Rattle.std.proofs.lemmas.Bool.Decides.{nat_tests}
use Rattle.std.specs.List.{find}
use Rattle.tree_specs.specs.declared.due.Due.{Due}
use Rattle.tree_specs.specs.declared.object.Obj.{Obj}
use Rattle.tree_specs.specs.Words.Objects.{same}
use Rattle.tree_specs.specs.Events.Pending.{is_armed, disarmed, comes_before, put_in}
use Rattle.tree_specs.proofs.Tree.Numbered.{by_test, same-true, same-equal, same-false}
use Rattle.timers.specs.Timetable.{NoneBefore, AreInOrder, AreOnce}

-- ---- what comes before what

pub not-back : (d e : Due) → comes_before d e ≡ true → comes_before e d ≡ false
not-back d e h = grind (arith, nat_tests)

-- what doesn't come before e, which doesn't come before d
pub none-both : (d e f : Due) → comes_before e d ≡ false → comes_before f e ≡ false → comes_before f d ≡ false
none-both d e f h k = grind (arith, nat_tests)

pub both-before : (d e f : Due) → comes_before d e ≡ true → comes_before e f ≡ true → comes_before d f ≡ true
both-before d e f h k = grind (arith, nat_tests)

-- neither comes before the other only where they have one number
pub one-number : (d e : Due) → comes_before d e ≡ false → comes_before e d ≡ false → d.number ≡ e.number
one-number d e h k = grind (arith, nat_tests)

pub not-itself : (d : Due) → comes_before d d ≡ false
not-itself d = grind (arith, nat_tests)

-- ---- put in

none-through : (d e : Due) (es : List Due) → comes_before d e ≡ true → NoneBefore e es → NoneBefore d es
none-through d e [] h n = tt
none-through d e (f ∷ fs) h n = (none-both d e f (not-back d e h) n.0, none-through d e fs h n.1)

pub none-put : (d e : Due) (es : List Due) → comes_before d e ≡ false → NoneBefore e es → NoneBefore e (put_in d es)
none-put d e [] h n = (h, tt)
none-put d e (f ∷ fs) h n = by_test (comes_before d f) (λ t. rw t (h, n)) (λ t. rw t (n.0, none-put d e fs h n.1))

pub order-put : (d : Due) (es : List Due) → AreInOrder es → AreInOrder (put_in d es)
order-put d [] h = (tt, tt)
order-put d (e ∷ es) h = by_test (comes_before d e)
    (λ t. rw t ((not-back d e t, none-through d e es t h.0), h))
    (λ t. rw t (none-put d e es t h.0, order-put d es h.1))

pub length-put : (d : Due) (es : List Due) → length (put_in d es) ≡ suc (length es)
length-put d [] = refl
length-put d (e ∷ es) = by_test (comes_before d e) (λ t. rw t refl) (λ t. rw t (ap suc (length-put d es)))

-- what is found there is the one put in, or another one
pub found-put : (q : Due → Bool) (d : Due) (es : List Due) → is_some (find q (put_in d es)) ≡ (q d || is_some (find q es))
found-put q d [] = by_test (q d) (λ t. rw t refl) (λ t. rw t refl)
found-put q d (e ∷ es) = by_test (comes_before d e)
    (λ t. rw t (by_test (q d) (λ u. rw u refl) (λ u. rw u refl)))
    (λ t. rw t (by_test (q e)
    (λ u. rw u (by_test (q d) (λ v. rw v refl) (λ v. rw v refl)))
    (λ u. rw u (found-put q d es))))

at-front : (d x : Due) (xs : List Due) → comes_before d x ≡ true → put_in d (x ∷ xs) ≡ d ∷ x ∷ xs
at-front d x xs t = rw t refl

behind : (d x : Due) (xs : List Due) → comes_before d x ≡ false → put_in d (x ∷ xs) ≡ x ∷ put_in d xs
behind d x xs t = rw t refl

-- the one that comes before the other is put in before or after it
put-before : (d e : Due) → comes_before d e ≡ true → (xs : List Due) → put_in d (put_in e xs) ≡ put_in e (put_in d xs)
put-before d e h [] = at-front d e [] h ∙ sym (behind e d [] (not-back d e h))
put-before d e h (x ∷ xs) = by_test (comes_before e x)
    (λ t. ap (put_in d) (at-front e x xs t) ∙ at-front d e (x ∷ xs) h
    ∙ sym (ap (put_in e) (at-front d x xs (both-before d e x h t)) ∙ behind e d (x ∷ xs) (not-back d e h) ∙ ap (λ l. d ∷ l) (at-front e x xs t)))
    (λ t. by_test (comes_before d x)
    (λ u. ap (put_in d) (behind e x xs t) ∙ at-front d x (put_in e xs) u
    ∙ sym (ap (put_in e) (at-front d x xs u) ∙ behind e d (x ∷ xs) (not-back d e h) ∙ ap (λ l. d ∷ l) (behind e x xs t)))
    (λ u. ap (put_in d) (behind e x xs t) ∙ behind d x (put_in e xs) u ∙ ap (λ l. x ∷ l) (put-before d e h xs)
    ∙ sym (ap (put_in e) (behind d x xs u) ∙ behind e x (put_in d xs) t)))

-- two are put in whichever comes first, unless they have one number
pub put-both : (d e : Due) → (d.number ≡ e.number → d ≡ e) → (xs : List Due) → put_in d (put_in e xs) ≡ put_in e (put_in d xs)
put-both d e h xs = by_test (comes_before d e)
    (λ t. put-before d e t xs)
    (λ t. by_test (comes_before e d)
    (λ u. sym (put-before e d u xs))
    (λ u. let s = h (one-number d e t u) in λ i. put_in (s i) (put_in (sym s i) xs)))

-- ---- taken out

pub nobody-gone : (es : List Due) (x : Obj) → is_armed es x ≡ false → disarmed es x ≡ es
nobody-gone [] x e = refl
nobody-gone (d ∷ ds) x e = by_test (same d.object x)
    (λ t. let bad : true ≡ false = rw t at e in cc)
    (λ t. let e' : is_armed ds x ≡ false = rw t at e in rw t (ap (λ (l : List Due). d ∷ l) (nobody-gone ds x e')))

pub armed-gone : (ds : List Due) (x : Obj) → is_armed (disarmed ds x) x ≡ false
armed-gone [] x = refl
armed-gone (d ∷ ds) x = by_test (same d.object x) (λ t. rw t (armed-gone ds x)) (λ t. rw t (rw t (armed-gone ds x)))

gone-put : (d : Due) (x : Obj) (es : List Due) → same d.object x ≡ true → disarmed (put_in d es) x ≡ disarmed es x
gone-put d x [] s = rw s refl
gone-put d x (e ∷ es) s = by_test (comes_before d e)
    (λ t. rw t (rw s refl))
    (λ t. rw t (by_test (same e.object x) (λ u. rw u (gone-put d x es s)) (λ u. rw u (ap (λ (l : List Due). e ∷ l) (gone-put d x es s)))))

-- the only one of an object goes
pub gone-alone : (d : Due) (x : Obj) (es : List Due) → same d.object x ≡ true → is_armed es x ≡ false → disarmed (put_in d es) x ≡ es
gone-alone d x es s n = gone-put d x es s ∙ nobody-gone es x n

-- the first of them goes
pub first-gone : (ds : List Due) (d : Due) → AreOnce ds → slice_get ds 0 ≡ Some d → disarmed ds d.object ≡ drop 1 ds
first-gone [] d a e = cc
first-gone (f ∷ fs) d a e =
    let fd : f ≡ d = cc in
    let t : same f.object d.object ≡ true = same-equal f.object d.object (ap (λ (g : Due). g.object) fd) in
    rw t (nobody-gone fs d.object (ap (λ (g : Due). is_armed fs g.object) (sym fd) ∙ a.0))

pub once-put : (d : Due) (es : List Due) → AreOnce es → is_armed es d.object ≡ false → AreOnce (put_in d es)
once-put d [] a n = (refl, tt)
once-put d (e ∷ es) a n = by_test (same e.object d.object)
    (λ t. let bad : true ≡ false = rw t at n in cc)
    (λ t. let n' : is_armed es d.object ≡ false = rw t at n in by_test (comes_before d e)
    (λ u. rw u (n, a))
    (λ u. let flip : same d.object e.object ≡ false = same-false d.object e.object (λ s. let w : same e.object d.object ≡ true = same-equal e.object d.object (sym s) in let bad : true ≡ false = sym w ∙ t in cc) in
    rw u (found-put (λ f. same f.object e.object) d es ∙ ap (λ b. b || is_armed es e.object) flip ∙ a.0, once-put d es a.1 n')))

-- none of the others has the object of the one put in
pub once-rest : (d : Due) (es : List Due) → AreOnce (put_in d es) → is_armed es d.object ≡ false
once-rest d [] a = refl
once-rest d (e ∷ es) a = by_test (comes_before d e)
    (λ t. let b : AreOnce (d ∷ e ∷ es) = subst AreOnce (at-front d e es t) a in b.0)
    (λ t. let b : AreOnce (e ∷ put_in d es) = subst AreOnce (behind d e es t) a in
    by_test (same e.object d.object)
    (λ u. let flip : same d.object e.object ≡ true = same-equal d.object e.object (sym (same-true e.object d.object u)) in
    let bad : true ≡ false = sym (ap (λ w. w || is_some (find (λ f. same f.object e.object) es)) flip) ∙ sym (found-put (λ f. same f.object e.object) d es) ∙ b.0 in cc)
    (λ u. rw u (once-rest d es b.1)))
