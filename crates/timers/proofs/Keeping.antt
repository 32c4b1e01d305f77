-- What each change leaves of what is kept.
use Rattle.std.proofs.Common.{◌≡◌, ℕ, ◌<◌, ◌≤◌, Bool, true, false, cond, not, nat_eq, List, [], ◌∷◌, ◌++◌, slice_get, Option, Some, None, is_some, refl, sym, ap, subst, ◌∙◌, arith}
use Rattle.std.proofs.lemmas.Bool.{eqb-true, eq-eqb}
use Rattle.std.proofs.lemmas.Option.{slice_get_within}
use Rattle.std.specs.List.{find}
use Rattle.std.specs.Global.{Vec}
use Rattle.std.specs.Option.{option_map, option_and_then}
use Rattle.std.specs.Ordering.{nat_cmp}
use Rattle.std.specs.FinMap as map
use Rattle.std.specs.FinMap.{get-empty, len-empty}
use Rattle.pool_arena.proofs.Keeps.{get-with_entry}
use Rattle.pool_arena.proofs.Steps.{len-gone}
use Rattle.tree_specs.specs.declared.due.Due.{Due}
use Rattle.tree_specs.specs.declared.object.Obj.{Obj}
use Rattle.tree_specs.specs.Words.Objects.{same, first_context}
use Rattle.tree_specs.specs.Events.Pending.{is_armed, is_numbered, disarmed, put_in, times_in}
use Rattle.tree_specs.specs.Events.Contexts.{has_context, without_context}
use Rattle.tree_specs.proofs.Tree.Numbered.{by_test, same-equal}
use Rattle.tree_specs.proofs.Events.ContextLaws.{times-disarmed}
use Rattle.tree_specs.proofs.Events.KnownContexts.{opened-kept, closed-kept, closed-first-kept}
use Rattle.timers.specs.declared.change.Change.{Change}
use Rattle.timers.specs.declared.heap.Place.{Place}
use Rattle.timers.specs.declared.heaps.Heaps.{Heaps}
use Rattle.timers.specs.Timetable.{AreOnce}
use Rattle.timers.specs.Changes.{changed, recontexted, dues_of, contexts_of}
use Rattle.timers.specs.Heaped.{sorted, by_number, IsKept}
use Rattle.timers.specs.Heaps.{numbered, context_of, index_in, at_in, heap_of, items_of, room_of, dues_in, room_in, is_open, spare_by, context_in, IsAdded, CanEnter, IsEntered, CanLeave, IsLeft, AreKept, HasRoom}
use Rattle.timers.proofs.Comes.{order-put, length-put, once-put, once-rest, gone-alone, nobody-gone}
use Rattle.timers.proofs.Sorted.{found-sorted, once-sorted}
use Rattle.timers.proofs.Places.{same-places}
use Rattle.timers.proofs.Holding.{once-placed, unplaced, due-at, sorted-none}
use Rattle.timers.proofs.Entering.{kept}
use Rattle.timers.proofs.Leaving.{places-but}
use Rattle.timers.proofs.Noting.{Noted, in_one}
use Rattle.timers.proofs.Contexts.{few-none, few-once, few-ordered, length-gone, times-put, times-put-other, armed-context, context-put, context-left, own-context}
use Rattle.timers.proofs.Changes.{dues-noted, contexts-noted}

pub none-from : {X : Type 0} (o : Option X) → is_some o ≡ false → o ≡ None
none-from None e = refl
none-from (Some x) e = cc

none-read : (o : Option Place) → option_map context_of o ≡ None → o ≡ None
none-read None e = refl
none-read (Some p) e = cc

-- the same heap in other words
same-kept : (ds es : List Due) (P P' : ℕ → Option ℕ) → es ≡ ds → ((q : ℕ) → P' q ≡ P q) → IsKept ds P → IsKept es P'
same-kept ds es P P' items places k = subst (λ l. IsKept l P') (sym items) (record { heap = k.heap; places = same-places (slice_get ds) P P' places k.places; told = k.told })

-- ---- nothing

module _ (h : Heaps) (m : Noted) (spare : ℕ) (first : h.first.items ≡ []) (others : h.others.pairs ≡ map.empty) (places : m ≡ map.empty) where
  other-none : (c : ℕ) → map.get h.others.pairs c ≡ None
  other-none c = ap (λ (n : map.FinMap nat_cmp (Vec Due)). map.get n c) others ∙ get-empty nat_cmp c

  place-none : (q : ℕ) → map.get m q ≡ None
  place-none q = ap (λ (n : Noted). map.get n q) places ∙ get-empty nat_cmp q

  nothing-in : (c : ℕ) → dues_in h c ≡ []
  nothing-in c = by_test (nat_eq c 0) (λ t. rw t first) (λ t. rw t (ap items_of (other-none c)))

  open-first : (c : ℕ) → is_open h c ≡ nat_eq c 0
  open-first c = by_test (nat_eq c 0) (λ t. rw t refl) (λ t. rw t (ap is_some (other-none c)))

  empty-kept : (c : ℕ) → IsKept [] (at_in m c)
  empty-kept c = record {
    heap = λ p k i. refl;
    places = record {
      there = λ i d e. cc;
      back = λ q i e. let bad : None ≡ Some i = sym (ap (option_and_then (index_in c)) (place-none q)) ∙ e in cc;
    };
    told = tt;
  }

  pub keeps-new : AreKept (dues_in h) (is_open h) m [] [] × HasRoom (room_in h) (is_open h) spare (Some 0)
  keeps-new = (
    record {
      ordered = tt;
      once = tt;
      held = λ q. ap (option_map context_of) (place-none q);
      count = ap (λ (n : Noted). map.len n) places ∙ len-empty nat_cmp Place;
      heaps = λ c. same-kept [] (dues_in h c) (at_in m c) (at_in m c) (nothing-in c) (λ q. refl) (empty-kept c);
      told = λ c. ap sorted (nothing-in c);
      known = λ c. open-first c ∙ by_test (nat_eq c 0)
          (λ t. let f : nat_eq 0 c ≡ true = eq-eqb 0 c (sym (eqb-true c 0 t)) in rw (t, f) refl)
          (λ t. let f : nat_eq 0 c ≡ false = by_test (nat_eq 0 c) (λ u. let s : nat_eq c 0 ≡ true = eq-eqb c 0 (sym (eqb-true 0 c u)) in let bad : true ≡ false = sym s ∙ t in cc) (λ u. u) in rw (t, f) refl);
    },
    record {
      heaps = λ c o ne. absurd (ne (ap Some (sym (eqb-true c 0 (sym (open-first c) ∙ o)))));
      place = λ e. absurd (cc);
    },
  )

-- ---- what changes

module _ (h : Heaps) (m : Noted) (dues : List Due) (contexts : List Obj) (k : AreKept (dues_in h) (is_open h) m dues contexts) where
  -- ---- what is noted of an object

  pub armed-noted : (x : Obj) → is_armed dues x ≡ is_some (map.get m x.0)
  armed-noted x = armed-context dues x ∙ ap is_some (sym (k.held x.0)) ∙ go (map.get m x.0)
    where
      go : (o : Option Place) → is_some (option_map context_of o) ≡ is_some o
      go None = refl
      go (Some p) = refl

  pub unnoted : (x : Obj) → is_armed dues x ≡ false → map.get m x.0 ≡ None
  unnoted x e = none-from (map.get m x.0) (sym (armed-noted x) ∙ e)

  -- ---- a time that enters

  module _ (d : Due) (absent : is_armed dues d.object ≡ false) where
    pub can-enter : is_numbered dues d.number ≡ false → CanEnter d (dues_in h d.context.0) m
    can-enter number = record {
      kept = k.heaps d.context.0;
      vacant = unnoted d.object absent;
      number =
          let q = λ (e : Due). nat_eq e.number d.number in
          sym (found-sorted q (dues_in h d.context.0)) ∙ ap (λ (l : List Due). is_some (find q l)) (k.told d.context.0) ∙ few-none (λ e. same e.context d.context) q dues number;
    }

    module _ (h' : Heaps) (n : Noted) (e : IsEntered d (dues_in h d.context.0) (dues_in h' d.context.0) m n)
        (opened : is_open h' d.context.0 ≡ is_open h d.context.0) (beside : (c : ℕ) → nat_eq d.context.0 c ≡ false → heap_of h' c ≡ heap_of h c) where
      pub keeps-entered : AreKept (dues_in h') (is_open h') n (put_in d dues) contexts
      keeps-entered = record {
        ordered = order-put d dues k.ordered;
        once = once-put d dues k.once absent;
        held = λ q. e.contexts q ∙ ap (cond (nat_eq d.object.0 q) (Some d.context.0)) (k.held q)
            ∙ sym (context-put d dues q (none-from (context_in dues d.object.0) (sym (armed-context dues d.object) ∙ absent)));
        count = let a = e.count in let b = k.count in let l = length-put d dues in omega (arith, a, b, l);
        heaps = λ c. by_test (nat_eq d.context.0 c)
            (λ t. subst (λ x. IsKept (dues_in h' x) (at_in n x)) (eqb-true d.context.0 c t) e.kept)
            (λ t. same-kept (dues_in h c) (dues_in h' c) (at_in m c) (at_in n c) (ap items_of (beside c t)) (λ q. e.places c q t) (k.heaps c));
        told = λ c. by_test (nat_eq d.context.0 c)
            (λ t. subst (λ x. sorted (dues_in h' x) ≡ times_in (put_in d dues) (numbered x)) (eqb-true d.context.0 c t)
            (e.dues ∙ ap (put_in d) (k.told d.context.0) ∙ sym (times-put d dues d.context k.ordered (same-equal d.context d.context refl))))
            (λ t. ap sorted (ap items_of (beside c t)) ∙ k.told c ∙ sym (times-put-other d dues (numbered c) t));
        known = λ c. by_test (nat_eq d.context.0 c)
            (λ t. subst (λ x. is_open h' x ≡ has_context contexts (numbered x)) (eqb-true d.context.0 c t) (opened ∙ k.known d.context.0))
            (λ t. ap is_some (beside c t) ∙ k.known c);
      }

      pub room-entered : (spare spare' : ℕ) → HasRoom (room_in h) (is_open h) spare None → HasRoom (room_in h') (is_open h') spare' (Some d.context.0)
      room-entered spare spare' r = record {
        heaps = λ c o ne. by_test (nat_eq d.context.0 c)
            (λ t. absurd (ne (ap Some (eqb-true d.context.0 c t))))
            (λ t. subst (λ u. 0 < room_of u) (sym (beside c t)) (r.heaps c (sym (ap is_some (beside c t)) ∙ o) (λ u. cc)));
        place = λ u. absurd (cc);
      }

  -- ---- a time that leaves

  module _ (x : Obj) (p : Place) (found : map.get m x.0 ≡ Some p) (m1 : Noted) (taken : m1 ≡ map.remove m x.0) where
    pub armed-here : is_armed dues x ≡ true
    armed-here = armed-noted x ∙ ap is_some found

    here : at_in m p.context x.0 ≡ Some p.at
    here = ap (option_and_then (index_in p.context)) found ∙ ap (λ b. cond b (Some p.at) None) (eq-eqb p.context p.context refl)

    gone : (q : ℕ) → map.get m1 q ≡ cond (nat_eq x.0 q) None (map.get m q)
    gone q = ap (λ (n : Noted). map.get n q) taken ∙ get-with_entry m x.0 None q

    gone-in : (c q : ℕ) → at_in m1 c q ≡ cond (nat_eq x.0 q) None (at_in m c q)
    gone-in c q = ap (option_and_then (index_in c)) (gone q) ∙ by_test (nat_eq x.0 q) (λ t. rw t refl) (λ t. rw t refl)

    its-due : (d : Due) × (slice_get (dues_in h p.context) p.at ≡ Some d) × (d.object.0 ≡ x.0)
    its-due = due-at (dues_in h p.context) (at_in m p.context) (k.heaps p.context).places x.0 p.at here

    pub can-leave : CanLeave p (dues_in h p.context) m1
    can-leave = record {
      within = slice_get_within (dues_in h p.context) p.at its-due.0 its-due.1;
      heap = (k.heaps p.context).heap;
      places = places-but (slice_get (dues_in h p.context)) (at_in m p.context) (at_in m1 p.context) x.0 p.at (k.heaps p.context).places here (gone-in p.context);
      own = own-context (dues_in h p.context) dues (numbered p.context) (k.told p.context);
    }

    -- it isn't in another context
    not-in : (c : ℕ) → nat_eq p.context c ≡ false → at_in m c x.0 ≡ None
    not-in c ne = in_one m x.0 p.context c (ap is_some here) ne

    module _ (h' : Heaps) (n : Noted) (e : IsLeft p (dues_in h p.context) (dues_in h' p.context) m1 n)
        (opened : is_open h' p.context ≡ is_open h p.context) (beside : (c : ℕ) → nat_eq p.context c ≡ false → heap_of h' c ≡ heap_of h c) where
      told-left : sorted (dues_in h' p.context) ≡ times_in (disarmed dues x) (numbered p.context)
      told-left =
          let d = its-due.0 in
          let ds = dues_in h p.context in
          let es = dues_in h' p.context in
          let hp = k.heaps p.context in
          let order : sorted ds ≡ put_in d (sorted es) = e.dues.order (by_number ds) d hp.told its-due.1 in
          let once = subst AreOnce order (once-sorted ds (once-placed ds (at_in m p.context) hp.places)) in
          let its : d.object ≡ x = ap numbered its-due.2 in
          let absent : is_armed (sorted es) x ≡ false = ap (is_armed (sorted es)) (sym its) ∙ once-rest d (sorted es) once in
          sym (gone-alone d x (sorted es) (same-equal d.object x its) absent) ∙ ap (λ (l : List Due). disarmed l x) (sym order ∙ k.told p.context) ∙ sym (times-disarmed dues x (numbered p.context))

      told-beside : (c : ℕ) → nat_eq p.context c ≡ false → sorted (dues_in h' c) ≡ times_in (disarmed dues x) (numbered c)
      told-beside c ne =
          let absent : is_armed (times_in dues (numbered c)) x ≡ false =
          ap (λ (l : List Due). is_armed l x) (sym (k.told c)) ∙ found-sorted (λ f. same f.object x) (dues_in h c) ∙ unplaced (dues_in h c) (at_in m c) (k.heaps c).places x (not-in c ne) in
          ap sorted (ap items_of (beside c ne)) ∙ k.told c ∙ sym (times-disarmed dues x (numbered c) ∙ nobody-gone (times_in dues (numbered c)) x absent)

      places-beside : (c : ℕ) → nat_eq p.context c ≡ false → (q : ℕ) → at_in n c q ≡ at_in m c q
      places-beside c ne q = e.beside.places c q ne ∙ gone-in c q ∙ by_test (nat_eq x.0 q)
          (λ t. let none : at_in m c q ≡ None = ap (at_in m c) (sym (eqb-true x.0 q t)) ∙ not-in c ne in rw (t, none) refl)
          (λ t. rw t refl)

      pub keeps-left : AreKept (dues_in h') (is_open h') n (disarmed dues x) contexts
      keeps-left = record {
        ordered = few-ordered (λ f. not (same f.object x)) dues k.ordered;
        once = few-once (λ f. not (same f.object x)) dues k.once;
        held = λ q. e.beside.contexts q ∙ ap (option_map context_of) (gone q) ∙ by_test (nat_eq x.0 q)
            (λ t. rw t (sym (context-left dues x q ∙ ap (λ b. cond b None (context_in dues q)) t)))
            (λ t. rw t (k.held q ∙ sym (context-left dues x q ∙ ap (λ b. cond b None (context_in dues q)) t)));
        count =
            let a = e.beside.count in
            let less = ap (λ (n : Noted). map.len n) taken ∙ len-gone m x.0 (ap is_some found) in
            let l = length-gone dues x k.once armed-here in
            let b = k.count in omega (arith, a, less, l, b);
        heaps = λ c. by_test (nat_eq p.context c)
            (λ t. subst (λ y. IsKept (dues_in h' y) (at_in n y)) (eqb-true p.context c t)
            (kept (by_number (dues_in h p.context)) (dues_in h' p.context) (at_in n p.context) e.heap e.places (e.dues.told (by_number (dues_in h p.context)) (k.heaps p.context).told)))
            (λ t. same-kept (dues_in h c) (dues_in h' c) (at_in m c) (at_in n c) (ap items_of (beside c t)) (places-beside c t) (k.heaps c));
        told = λ c. by_test (nat_eq p.context c)
            (λ t. subst (λ y. sorted (dues_in h' y) ≡ times_in (disarmed dues x) (numbered y)) (eqb-true p.context c t) told-left)
            (λ t. told-beside c t);
        known = λ c. by_test (nat_eq p.context c)
            (λ t. subst (λ y. is_open h' y ≡ has_context contexts (numbered y)) (eqb-true p.context c t) (opened ∙ k.known p.context))
            (λ t. ap is_some (beside c t) ∙ k.known c);
      }

      pub room-left : (spare spare' : ℕ) (filled : Option ℕ) → room_in h p.context ≤ room_in h' p.context → spare ≤ spare' → HasRoom (room_in h) (is_open h) spare filled → HasRoom (room_in h') (is_open h') spare' filled
      room-left spare spare' filled room more r = record {
        heaps = λ c o ne. by_test (nat_eq p.context c)
            (λ t. let at = eqb-true p.context c t in
            let was = r.heaps c (subst (λ y. is_open h y ≡ true) at (sym opened ∙ subst (λ y. is_open h' y ≡ true) (sym at) o)) ne in
            let more_room = subst (λ y. room_in h y ≤ room_in h' y) at room in omega (arith, was, more_room))
            (λ t. subst (λ u. 0 < room_of u) (sym (beside c t)) (r.heaps c (sym (ap is_some (beside c t)) ∙ o) ne));
        place = λ u. let was = r.place u in omega (arith, was, more);
      }

  -- ---- a context that is added

  module _ (c : Obj) (h' : Heaps) (a : IsAdded h h' c.0) (none : heap_of h c.0 ≡ None) where
    added-items : (d : ℕ) → dues_in h' d ≡ dues_in h d
    added-items d = ap items_of (a.heaps d) ∙ by_test (nat_eq c.0 d)
        (λ t. let was : heap_of h d ≡ None = ap (heap_of h) (sym (eqb-true c.0 d t)) ∙ none in rw (t, was) a.empty)
        (λ t. rw t refl)

    pub keeps-opened : AreKept (dues_in h') (is_open h') m dues (c ∷ contexts)
    keeps-opened = record {
      ordered = k.ordered;
      once = k.once;
      held = k.held;
      count = k.count;
      heaps = λ d. same-kept (dues_in h d) (dues_in h' d) (at_in m d) (at_in m d) (added-items d) (λ q. refl) (k.heaps d);
      told = λ d. ap sorted (added-items d) ∙ k.told d;
      known = λ d. opened-kept (heap_of h) (heap_of h') contexts (λ e. k.known e.0) c a.heap a.heaps (numbered d);
    }

    pub room-opened : (spare : ℕ) → HasRoom (room_in h) (is_open h) spare None → HasRoom (room_in h') (is_open h') spare (Some c.0)
    room-opened spare r = record {
      heaps = λ d o ne. subst (λ u. 0 < room_of u) (sym (a.heaps d)) (by_test (nat_eq c.0 d)
          (λ t. absurd (ne (ap Some (eqb-true c.0 d t))))
          (λ t. rw t (r.heaps d (sym (ap (λ b. is_some (cond b (Some a.heap) (heap_of h d))) t) ∙ sym (ap is_some (a.heaps d)) ∙ o) (λ u. cc))));
      place = λ u. cc;
    }

  -- ---- a context that is dropped

  module _ (c : Obj) (h' : Heaps) (first : h'.first ≡ h.first) (others : h'.others.pairs ≡ map.remove h.others.pairs c.0) (none : times_in dues c ≡ []) where
    others-now : (d : ℕ) → map.get h'.others.pairs d ≡ cond (nat_eq c.0 d) None (map.get h.others.pairs d)
    others-now d = ap (λ (n : map.FinMap nat_cmp (Vec Due)). map.get n d) others ∙ get-with_entry h.others.pairs c.0 None d

    -- the heap of another one than the one that is dropped, and of the first one
    stays : (d : ℕ) → nat_eq c.0 0 ≡ true → heap_of h' d ≡ heap_of h d
    stays d t = by_test (nat_eq d 0)
        (λ u. rw u (ap Some first))
        (λ u. let ne : nat_eq c.0 d ≡ false = by_test (nat_eq c.0 d) (λ w. let s : nat_eq d 0 ≡ true = ap (λ (x : ℕ). nat_eq x 0) (sym (eqb-true c.0 d w)) ∙ t in let bad : true ≡ false = sym s ∙ u in cc) (λ w. w) in
        rw u (others-now d ∙ ap (λ b. cond b None (map.get h.others.pairs d)) ne))

    goes : (d : ℕ) → nat_eq c.0 0 ≡ false → heap_of h' d ≡ cond (nat_eq c.0 d) None (heap_of h d)
    goes d t = by_test (nat_eq d 0)
        (λ u. let ne : nat_eq c.0 d ≡ false = ap (nat_eq c.0) (eqb-true d 0 u) ∙ t in rw (u, ne) (ap Some first))
        (λ u. rw u (others-now d))

    nothing-there : dues_in h c.0 ≡ []
    nothing-there = sorted-none (dues_in h c.0) (k.told c.0 ∙ none)

    closed-items : (d : ℕ) → dues_in h' d ≡ dues_in h d
    closed-items d = by_test (nat_eq c.0 0)
        (λ t. ap items_of (stays d t))
        (λ t. ap items_of (goes d t) ∙ by_test (nat_eq c.0 d)
        (λ u. rw u (sym (ap (dues_in h) (sym (eqb-true c.0 d u)) ∙ nothing-there)))
        (λ u. rw u refl))

    pub keeps-closed : AreKept (dues_in h') (is_open h') m dues (without_context contexts c)
    keeps-closed = record {
      ordered = k.ordered;
      once = k.once;
      held = k.held;
      count = k.count;
      heaps = λ d. same-kept (dues_in h d) (dues_in h' d) (at_in m d) (at_in m d) (closed-items d) (λ q. refl) (k.heaps d);
      told = λ d. ap sorted (closed-items d) ∙ k.told d;
      known = λ d. by_test (same c first_context)
          (λ t. closed-first-kept (heap_of h) (heap_of h') contexts (λ e. k.known e.0) c t (λ e. stays e t) (numbered d))
          (λ t. closed-kept (heap_of h) (heap_of h') contexts (λ e. k.known e.0) c t (λ e. goes e t) (numbered d));
    }

    pub room-closed : (spare : ℕ) (filled : Option ℕ) → HasRoom (room_in h) (is_open h) spare filled → HasRoom (room_in h') (is_open h') spare filled
    room-closed spare filled r = record {
      heaps = λ d o ne. by_test (nat_eq c.0 0)
          (λ t. subst (λ u. 0 < room_of u) (sym (stays d t)) (r.heaps d (sym (ap is_some (stays d t)) ∙ o) ne))
          (λ t. by_test (nat_eq c.0 d)
          (λ u. let bad : false ≡ true = sym (ap is_some (goes d t ∙ ap (λ b. cond b None (heap_of h d)) u)) ∙ o in cc)
          (λ u. let same_heap : heap_of h' d ≡ heap_of h d = goes d t ∙ ap (λ b. cond b None (heap_of h d)) u in
          subst (λ w. 0 < room_of w) (sym same_heap) (r.heaps d (sym (ap is_some same_heap) ∙ o) ne)));
      place = r.place;
    }

-- ---- the history

-- what is kept, once the change is noted
pub keeps-noted : (h : Heaps) (m : Noted) (before after : List (Change × Unit {0})) (change : Change) → after ≡ before ++ (change, tt) ∷ []
    → AreKept (dues_in h) (is_open h) m (changed (dues_of before) change) (recontexted (contexts_of before) change) → AreKept (dues_in h) (is_open h) m (dues_of after) (contexts_of after)
keeps-noted h m before after change noted k =
    subst (λ (ds : List Due). AreKept (dues_in h) (is_open h) m ds (contexts_of after)) (sym (dues-noted before after change noted))
    (subst (λ (cs : List Obj). AreKept (dues_in h) (is_open h) m (changed (dues_of before) change) cs) (sym (contexts-noted before after change noted)) k)

-- none is filled, where there is spare
pub unfilled : (o : Option ℕ) → 0 < spare_by o → o ≡ None
unfilled None l = refl
unfilled (Some c) l = absurd (omega (arith, l))

-- there are more places
pub room-more : (R : ℕ → ℕ) (open_ones : ℕ → Bool) (spare spare' : ℕ) (filled : Option ℕ) → spare ≤ spare' → HasRoom R open_ones spare filled → HasRoom R open_ones spare' filled
room-more R open_ones spare spare' filled more r = record { heaps = r.heaps; place = λ u. let was = r.place u in omega (arith, was, more) }
