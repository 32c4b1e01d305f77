-- The times of one context among those of all.
use Rattle.std.proofs.Common.{◌≡◌, ℕ, zero, suc, ◌+◌, Bool, true, false, not, cond, nat_eq, List, [], ◌∷◌, length, drop, slice_get, Some, None, is_some, IsTrue, refl, sym, ◌∙◌, ap, arith}
use Rattle.std.proofs.lemmas.Bool.{eqb-true, eq-eqb}
use Rattle.std.proofs.lemmas.Bool.Decides.{nat_tests}
use Rattle.std.specs.List.{find, filter}
use Rattle.tree_specs.specs.declared.due.Due.{Due}
use Rattle.tree_specs.specs.declared.object.Obj.{Obj}
use Rattle.tree_specs.specs.Words.Objects.{same}
use Rattle.tree_specs.specs.Events.Pending.{is_armed, disarmed, comes_before, put_in, times_in, times_without}
use Rattle.tree_specs.proofs.Tree.Numbered.{by_test, same-true, same-equal}
use Rattle.tree_specs.proofs.Events.ContextLaws.{filter-filter, times-disarmed}
use Rattle.timers.specs.Timetable.{NoneBefore, AreInOrder, AreOnce}
use Rattle.timers.specs.Heaped.{sorted}
use Rattle.timers.specs.Heaps.{context_in}
use Rattle.timers.proofs.Comes.{nobody-gone, first-gone}
use Rattle.timers.proofs.Sorted.{found-sorted}

-- ---- some of the times

-- what none has, none of some has
pub few-none : (p q : Due → Bool) (ds : List Due) → is_some (find q ds) ≡ false → is_some (find q (filter p ds)) ≡ false
few-none p q [] e = refl
few-none p q (d ∷ ds) e = by_test (q d)
    (λ u. let bad : true ≡ false = rw u at e in cc)
    (λ u. let e' : is_some (find q ds) ≡ false = rw u at e in
    let ih = few-none p q ds e' in
    by_test (p d) (λ t. rw t (rw u ih)) (λ t. rw t ih))

pub few-once : (p : Due → Bool) (ds : List Due) → AreOnce ds → AreOnce (filter p ds)
few-once p [] a = tt
few-once p (d ∷ ds) a = by_test (p d)
    (λ t. rw t (few-none p (λ e. same e.object d.object) ds a.0, few-once p ds a.1))
    (λ t. rw t (few-once p ds a.1))

few-before : (p : Due → Bool) (d : Due) (es : List Due) → NoneBefore d es → NoneBefore d (filter p es)
few-before p d [] n = tt
few-before p d (e ∷ es) n = by_test (p e) (λ t. rw t (n.0, few-before p d es n.1)) (λ t. rw t (few-before p d es n.1))

pub few-ordered : (p : Due → Bool) (ds : List Due) → AreInOrder ds → AreInOrder (filter p ds)
few-ordered p [] a = tt
few-ordered p (d ∷ ds) a = by_test (p d) (λ t. rw t (few-before p d ds a.0, few-ordered p ds a.1)) (λ t. rw t (few-ordered p ds a.1))

-- one that has a time loses one
pub length-gone : (ds : List Due) (x : Obj) → AreOnce ds → is_armed ds x ≡ true → length (disarmed ds x) + 1 ≡ length ds
length-gone [] x a e = cc
length-gone (d ∷ ds) x a e = by_test (same d.object x)
    (λ t. let none : is_armed ds x ≡ false = ap (is_armed ds) (sym (same-true d.object x t)) ∙ a.0 in
    let l = ap length (nobody-gone ds x none) in rw t (omega (arith, l)))
    (λ t. let e' : is_armed ds x ≡ true = rw t at e in let ih = length-gone ds x a.1 e' in rw t (omega (arith, ih)))

-- ---- one that is put in

-- what comes before one that others don't come before also comes before those
before-both : (d e f : Due) → comes_before d e ≡ true → comes_before f e ≡ false → comes_before d f ≡ true
before-both d e f h k = grind (arith, nat_tests)

put-front : (p : Due → Bool) (d e : Due) (es : List Due) → comes_before d e ≡ true → NoneBefore e es → put_in d (filter p es) ≡ d ∷ filter p es
put-front p d e [] h n = refl
put-front p d e (f ∷ fs) h n = by_test (p f)
    (λ t. let b = before-both d e f h n.0 in rw t (rw b refl))
    (λ t. rw t (put-front p d e fs h n.1))

-- in its own context it is put in at its place, and in the others nothing changes
pub times-put : (d : Due) (ds : List Due) (c : Obj) → AreInOrder ds → same d.context c ≡ true → times_in (put_in d ds) c ≡ put_in d (times_in ds c)
times-put d [] c a s = rw s refl
times-put d (e ∷ es) c a s = by_test (comes_before d e)
    (λ t. rw t (rw s (by_test (same e.context c)
    (λ u. rw u (rw t refl))
    (λ u. rw u (sym (put-front (λ f. same f.context c) d e es t a.0))))))
    (λ t. rw t (by_test (same e.context c)
    (λ u. rw u (rw t (ap (λ (l : List Due). e ∷ l) (times-put d es c a.1 s))))
    (λ u. rw u (times-put d es c a.1 s))))

pub times-put-other : (d : Due) (ds : List Due) (c : Obj) → same d.context c ≡ false → times_in (put_in d ds) c ≡ times_in ds c
times-put-other d [] c s = rw s refl
times-put-other d (e ∷ es) c s = by_test (comes_before d e)
    (λ t. rw t (rw s refl))
    (λ t. rw t (by_test (same e.context c)
    (λ u. rw u (ap (λ (l : List Due). e ∷ l) (times-put-other d es c s)))
    (λ u. rw u (times-put-other d es c s))))

-- ---- the context of an object

pub armed-context : (ds : List Due) (x : Obj) → is_armed ds x ≡ is_some (context_in ds x.0)
armed-context [] x = refl
armed-context (d ∷ ds) x = by_test (same d.object x) (λ t. rw t refl) (λ t. rw t (armed-context ds x))

pub context-put : (d : Due) (ds : List Due) (q : ℕ) → context_in ds d.object.0 ≡ None → context_in (put_in d ds) q ≡ cond (nat_eq d.object.0 q) (Some d.context.0) (context_in ds q)
context-put d [] q e = refl
context-put d (f ∷ fs) q e = by_test (nat_eq f.object.0 d.object.0)
    (λ t. let bad : Some f.context.0 ≡ None = rw t at e in cc)
    (λ t. let e' : context_in fs d.object.0 ≡ None = rw t at e in by_test (comes_before d f)
    (λ b. rw b refl)
    (λ b. rw b (by_test (nat_eq f.object.0 q)
    (λ u. let n : nat_eq d.object.0 q ≡ false = by_test (nat_eq d.object.0 q)
    (λ w. let s : nat_eq f.object.0 d.object.0 ≡ true = eq-eqb f.object.0 d.object.0 (eqb-true f.object.0 q u ∙ sym (eqb-true d.object.0 q w)) in let bad : true ≡ false = sym s ∙ t in cc)
    (λ w. w) in rw (u, n) refl)
    (λ u. rw u (context-put d fs q e')))))

pub context-left : (ds : List Due) (x : Obj) (q : ℕ) → context_in (disarmed ds x) q ≡ cond (nat_eq x.0 q) None (context_in ds q)
context-left [] x q = by_test (nat_eq x.0 q) (λ t. rw t refl) (λ t. rw t refl)
context-left (d ∷ ds) x q = by_test (same d.object x)
    (λ t. rw t (context-left ds x q ∙ by_test (nat_eq x.0 q)
    (λ u. rw u refl)
    (λ u. let n : nat_eq d.object.0 q ≡ false = ap (λ (k : ℕ). nat_eq k q) (eqb-true d.object.0 x.0 t) ∙ u in rw (u, n) refl)))
    (λ t. rw t (by_test (nat_eq d.object.0 q)
    (λ u. let n : nat_eq x.0 q ≡ false = by_test (nat_eq x.0 q)
    (λ w. let s : nat_eq d.object.0 x.0 ≡ true = eq-eqb d.object.0 x.0 (eqb-true d.object.0 q u ∙ sym (eqb-true x.0 q w)) in let bad : true ≡ false = sym s ∙ t in cc)
    (λ w. w) in rw (u, n) refl)
    (λ u. rw u (context-left ds x q))))

none-other : (ds : List Due) (c : Obj) → is_some (find (λ e. not (same e.context c)) (times_in ds c)) ≡ false
none-other [] c = refl
none-other (d ∷ ds) c = by_test (same d.context c) (λ t. rw t (rw t (none-other ds c))) (λ t. rw t (none-other ds c))

not-found : (q : Due → Bool) (ds : List Due) (i : ℕ) (d : Due) → is_some (find q ds) ≡ false → slice_get ds i ≡ Some d → q d ≡ false
not-found q [] i d n e = cc
not-found q (f ∷ fs) zero d n e = by_test (q f)
    (λ t. let bad : true ≡ false = rw t at n in cc)
    (λ t. let fd : f ≡ d = cc in ap q (sym fd) ∙ t)
not-found q (f ∷ fs) (suc i) d n e = by_test (q f)
    (λ t. let bad : true ≡ false = rw t at n in cc)
    (λ t. let n' : is_some (find q fs) ≡ false = rw t at n in not-found q fs i d n' e)

-- each time of a heap is one of its context
pub own-context : (ds dues : List Due) (c : Obj) → sorted ds ≡ times_in dues c → (i : ℕ) (d : Due) → slice_get ds i ≡ Some d → d.context.0 ≡ c.0
own-context ds dues c told i d e =
    let q = λ (f : Due). not (same f.context c) in
    let none : is_some (find q ds) ≡ false = sym (found-sorted q ds) ∙ ap (λ (l : List Due). is_some (find q l)) told ∙ none-other dues c in
    eqb-true d.context.0 c.0 (unnot (same d.context c) (not-found q ds i d none e))
  where
    unnot : (b : Bool) → not b ≡ false → b ≡ true
    unnot true n = refl
    unnot false n = cc

-- ---- the first one of a context comes

armed-first : (ds : List Due) (d : Due) → slice_get ds 0 ≡ Some d → is_armed ds d.object ≡ true
armed-first [] d e = cc
armed-first (f ∷ fs) d e = let fd : f ≡ d = cc in let t : same f.object d.object ≡ true = same-equal f.object d.object (ap (λ (g : Due). g.object) fd) in rw t refl

-- an object that has its time in one context has none in the others
elsewhere-absent : (ds : List Due) (c x : Obj) → AreOnce ds → is_armed (times_in ds c) x ≡ true → is_armed (times_without ds c) x ≡ false
elsewhere-absent [] c x a h = refl
elsewhere-absent (d ∷ ds) c x a h = by_test (same d.context c)
    (λ t. by_test (same d.object x)
    (λ u. let none : is_armed ds x ≡ false = ap (is_armed ds) (sym (same-true d.object x u)) ∙ a.0 in
    rw t (few-none (λ e. not (same e.context c)) (λ e. same e.object x) ds none))
    (λ u. let h' : is_armed (times_in ds c) x ≡ true = rw u at (rw t at h) in rw t (elsewhere-absent ds c x a.1 h')))
    (λ t. let h' : is_armed (times_in ds c) x ≡ true = rw t at h in
    by_test (same d.object x)
    (λ u. let none : is_armed ds x ≡ false = ap (is_armed ds) (sym (same-true d.object x u)) ∙ a.0 in
    let few = few-none (λ e. same e.context c) (λ e. same e.object x) ds none in
    let bad : true ≡ false = sym h' ∙ few in cc)
    (λ u. rw t (rw u (elsewhere-absent ds c x a.1 h'))))

-- one that leaves a context, of those that are in it
module _ (ds : List Due) (c x : Obj) (a : AreOnce ds) (e : is_armed (times_in ds c) x ≡ true) where
  pub gone-elsewhere : times_without (disarmed ds x) c ≡ times_without ds c
  gone-elsewhere = filter-filter (λ f. not (same f.context c)) (λ f. not (same f.object x)) ds ∙ nobody-gone (times_without ds c) x (elsewhere-absent ds c x a e)

  pub gone-fewer : length (times_in (disarmed ds x) c) + 1 ≡ length (times_in ds c)
  gone-fewer = ap (λ (l : List Due). length l + 1) (times-disarmed ds x c) ∙ length-gone (times_in ds c) x (few-once (λ f. same f.context c) ds a) e

module _ (ds : List Due) (c : Obj) (d : Due) (a : AreOnce ds) (e : slice_get (times_in ds c) 0 ≡ Some d) where
  pub first-here : times_in (disarmed ds d.object) c ≡ drop 1 (times_in ds c)
  first-here = times-disarmed ds d.object c ∙ first-gone (times_in ds c) d (few-once (λ f. same f.context c) ds a) e

  pub first-elsewhere : times_without (disarmed ds d.object) c ≡ times_without ds c
  first-elsewhere = gone-elsewhere ds c d.object a (armed-first (times_in ds c) d e)

-- ---- a context without times

-- those of the others are all
pub none-without : (ds : List Due) (c : Obj) → times_in ds c ≡ [] → times_without ds c ≡ ds
none-without [] c e = refl
none-without (d ∷ ds) c e = by_test (same d.context c)
    (λ t. let bad : d ∷ times_in ds c ≡ [] = rw t at e in cc)
    (λ t. let e' : times_in ds c ≡ [] = rw t at e in rw t (ap (λ (l : List Due). d ∷ l) (none-without ds c e')))

pub none-told : (ds : List Due) (b : Bool) → not b ≡ is_some (slice_get ds 0) → (IsTrue b → ds ≡ []) × (ds ≡ [] → IsTrue b)
none-told [] true e = (λ t. refl, λ n. refl)
none-told [] false e = cc
none-told (d ∷ ds) true e = cc
none-told (d ∷ ds) false e = (λ t. cc, λ n. cc)
