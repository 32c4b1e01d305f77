-- Each event and each descriptor once, and the event of each descriptor, whatever is taken out, added or changed.
use Rattle.std.proofs.Common.{◌≡◌, ℕ, Bool, true, false, cond, nat_eq, if◌then◌else◌, List, [], ◌∷◌, ◌++◌, map, Option, Some, None, is_some, refl, sym, ap, ◌∙◌}
use Rattle.std.specs.Prelude.{not}
use Rattle.std.specs.List.{find, filter}
use Rattle.std.specs.Option.{option_map, option_or}
use Rattle.std.proofs.lemmas.Bool.{eqb-true}
use Rattle.std.proofs.lemmas.List.Folds.{find-append}
use Rattle.tree_specs.specs.declared.object.Obj.{Obj}
use Rattle.tree_specs.specs.declared.watch.Watch.{Watch}
use Rattle.tree_specs.specs.Words.Objects.{same}
use Rattle.tree_specs.specs.Events.Rotation.{watch_of, is_watching, is_watched, unwatched, rewatched}
use Rattle.tree_specs.proofs.Tree.Numbered.{same-true}
use Rattle.linked_lanes.proofs.Lanes.{by_test, not_both, false_by, eqb-self, eqb-sym}
use Rattle.fd_events.specs.Rotation.{object_of, AreOnceBy, AreEventsOnce, AreDescriptorsOnce}
use Rattle.fd_events.specs.Linked.{numbered, AreHolders}

pub is_some-map : {X Y : Type 0} (f : X → Y) (o : Option X) → is_some (option_map f o) ≡ is_some o
is_some-map f None = refl
is_some-map f (Some v) = refl

pub none : {X : Type 0} (o : Option X) → is_some o ≡ false → o ≡ None
none None e = refl
none (Some v) e = cc

abbrev pub kept_if : (Watch → Bool) → Option Watch → Option Watch
kept_if p None = None
kept_if p (Some w) = if p w then Some w else None

-- ---- what no two have the same of

module _ (key : Watch → ℕ) where
  abbrev found : List Watch → ℕ → Option Watch
  found ws n = find (λ w. nat_eq (key w) n) ws

  found-added : (ws : List Watch) (w : Watch) (n : ℕ) → found (ws ++ w ∷ []) n ≡ option_or (found ws n) (if nat_eq (key w) n then Some w else None)
  found-added ws w n = find-append (λ v. nat_eq (key v) n) ws (w ∷ [])

  absent-added : (ws : List Watch) (w : Watch) (n : ℕ) → is_some (found ws n) ≡ false → nat_eq (key w) n ≡ false → is_some (found (ws ++ w ∷ []) n) ≡ false
  absent-added ws w n e t = ap is_some (found-added ws w n ∙ ap (λ o. option_or o (if nat_eq (key w) n then Some w else None)) (none _ e)) ∙ rw t refl

  pub once-added : (ws : List Watch) (w : Watch) → AreOnceBy key ws → is_some (found ws (key w)) ≡ false → AreOnceBy key (ws ++ w ∷ [])
  once-added [] w a e = (refl, tt)
  once-added (v ∷ vs) w a e = by_test (nat_eq (key v) (key w))
      (λ t. let bad : true ≡ false = rw t at e in cc)
      (λ t. let e' : is_some (found vs (key w)) ≡ false = rw t at e in (absent-added vs w (key v) a.0 (eqb-sym (key w) (key v) ∙ t), once-added vs w a.1 e'))

  absent-filtered : (p : Watch → Bool) (ws : List Watch) (n : ℕ) → is_some (found ws n) ≡ false → is_some (found (filter p ws) n) ≡ false
  absent-filtered p [] n e = refl
  absent-filtered p (v ∷ vs) n e = by_test (nat_eq (key v) n)
      (λ t. let bad : true ≡ false = rw t at e in cc)
      (λ t. let e' : is_some (found vs n) ≡ false = rw t at e in
      by_test (p v) (λ u. rw u (rw t (absent-filtered p vs n e'))) (λ u. rw u (absent-filtered p vs n e')))

  pub once-filtered : (p : Watch → Bool) (ws : List Watch) → AreOnceBy key ws → AreOnceBy key (filter p ws)
  once-filtered p [] a = tt
  once-filtered p (v ∷ vs) a = by_test (p v) (λ u. rw u (absent-filtered p vs (key v) a.0, once-filtered p vs a.1)) (λ u. rw u (once-filtered p vs a.1))

  -- one among those that pass a test
  pub found-kept : (p : Watch → Bool) (ws : List Watch) (n : ℕ) → AreOnceBy key ws → found (filter p ws) n ≡ kept_if p (found ws n)
  found-kept p [] n a = refl
  found-kept p (v ∷ vs) n a = by_test (nat_eq (key v) n)
      (λ t. by_test (p v)
      (λ u. rw (t, u, t) refl)
      (λ u. rw (t, u) (none _ (absent-filtered p vs n (ap (λ k. is_some (found vs k)) (sym (eqb-true (key v) n t)) ∙ a.0)))))
      (λ t. by_test (p v)
      (λ u. rw (t, u, t) (found-kept p vs n a.1))
      (λ u. rw (t, u) (found-kept p vs n a.1)))

  module _ (g : Watch → Watch) (kept : (w : Watch) → key (g w) ≡ key w) where
    pub found-changed : (ws : List Watch) (n : ℕ) → found (map g ws) n ≡ option_map g (found ws n)
    found-changed [] n = refl
    found-changed (v ∷ vs) n =
        let is : nat_eq (key (g v)) n ≡ nat_eq (key v) n = ap (λ k. nat_eq k n) (kept v) in
        by_test (nat_eq (key v) n) (λ t. rw (is ∙ t, t) refl) (λ t. rw (is ∙ t, t) (found-changed vs n))

    pub once-changed : (ws : List Watch) → AreOnceBy key ws → AreOnceBy key (map g ws)
    once-changed [] a = tt
    once-changed (v ∷ vs) a =
        (ap is_some (found-changed vs (key (g v))) ∙ is_some-map g _ ∙ ap (λ k. is_some (found vs k)) (kept v) ∙ a.0, once-changed vs a.1)

-- ---- one event among the others

abbrev pub by_fd : List Watch → ℕ → Option Watch
by_fd ws fd = find (λ w. nat_eq w.fd fd) ws

pub watch-object : (ws : List Watch) (x : Obj) (w : Watch) → watch_of ws x ≡ Some w → w.object ≡ x
watch-object [] x w e = cc
watch-object (v ∷ vs) x w e = by_test (same v.object x)
    (λ t. let e' : Some v ≡ Some w = rw t at e in let is : v ≡ w = cc in ap (λ (u : Watch). u.object) (sym is) ∙ same-true v.object x t)
    (λ t. let e' : watch_of vs x ≡ Some w = rw t at e in watch-object vs x w e')

-- its descriptor tells which it is
watch-fd : (ws : List Watch) (x : Obj) (w : Watch) → AreDescriptorsOnce ws → watch_of ws x ≡ Some w → by_fd ws w.fd ≡ Some w
watch-fd [] x w d e = cc
watch-fd (v ∷ vs) x w d e = by_test (same v.object x)
    (λ t. let e' : Some v ≡ Some w = rw t at e in let is : v ≡ w = cc in
    let u : nat_eq v.fd w.fd ≡ true = ap (λ (z : Watch). nat_eq z.fd w.fd) is ∙ eqb-self w.fd in rw u e')
    (λ t. let e' : watch_of vs x ≡ Some w = rw t at e in
    let ih = watch-fd vs x w d.1 e' in
    by_test (nat_eq v.fd w.fd)
    (λ u. not_both (ap is_some ih) (ap (λ n. is_some (by_fd vs n)) (sym (eqb-true v.fd w.fd u)) ∙ d.0))
    (λ u. rw u ih))

-- the event that watches a descriptor
pub holder-watch : (ws : List Watch) (fd : ℕ) (w : Watch) → AreEventsOnce ws → by_fd ws fd ≡ Some w → watch_of ws w.object ≡ Some w
holder-watch [] fd w a e = cc
holder-watch (v ∷ vs) fd w a e = by_test (nat_eq v.fd fd)
    (λ t. let e' : Some v ≡ Some w = rw t at e in let is : v ≡ w = cc in
    let u : same v.object w.object ≡ true = ap (λ (z : Watch). same z.object w.object) is ∙ eqb-self w.object.0 in rw u e')
    (λ t. let e' : by_fd vs fd ≡ Some w = rw t at e in
    let ih = holder-watch vs fd w a.1 e' in
    by_test (same v.object w.object)
    (λ u. not_both (ap is_some ih) (ap (is_watching vs) (sym (same-true v.object w.object u)) ∙ a.0))
    (λ u. rw u ih))

pub unwatched-none : (ws : List Watch) (x : Obj) → is_watching ws x ≡ false → unwatched ws x ≡ ws
unwatched-none [] x e = refl
unwatched-none (v ∷ vs) x e = by_test (same v.object x)
    (λ t. let bad : true ≡ false = rw t at e in cc)
    (λ t. let e' : is_watching vs x ≡ false = rw t at e in rw t (ap (λ (l : List Watch). v ∷ l) (unwatched-none vs x e')))

-- its descriptor is free once it is gone
pub gone-fd : (ws : List Watch) (x : Obj) (w : Watch) → AreEventsOnce ws → AreDescriptorsOnce ws → watch_of ws x ≡ Some w → (g : ℕ) → by_fd (unwatched ws x) g ≡ cond (nat_eq w.fd g) None (by_fd ws g)
gone-fd [] x w a d e g = cc
gone-fd (v ∷ vs) x w a d e g = by_test (same v.object x)
    (λ t. let e' : Some v ≡ Some w = rw t at e in let is : v ≡ w = cc in
    let out : is_watching vs x ≡ false = ap (is_watching vs) (sym (same-true v.object x t)) ∙ a.0 in
    let fds : nat_eq v.fd g ≡ nat_eq w.fd g = ap (λ (z : Watch). nat_eq z.fd g) is in
    rw t (ap (λ l. by_fd l g) (unwatched-none vs x out) ∙ by_test (nat_eq w.fd g)
    (λ u. rw u (none (by_fd vs g) (ap (λ n. is_some (by_fd vs n)) (sym (eqb-true v.fd g (fds ∙ u))) ∙ d.0)))
    (λ u. rw (u, fds ∙ u) refl)))
    (λ t. let e' : watch_of vs x ≡ Some w = rw t at e in
    rw t (by_test (nat_eq v.fd g)
    (λ u. let off : nat_eq w.fd g ≡ false = false_by _ (λ h. not_both (ap is_some (watch-fd vs x w d.1 e'))
    (ap (λ n. is_some (by_fd vs n)) (eqb-true w.fd g h ∙ sym (eqb-true v.fd g u)) ∙ d.0)) in rw (u, off) refl)
    (λ u. rw u (gone-fd vs x w a.1 d.1 e' g))))

-- ---- the event of each descriptor

-- a descriptor is free
pub is-free : (ws : List Watch) (fd : ℕ) → is_watched ws fd ≡ false → is_some (by_fd ws fd) ≡ false
is-free ws fd e = sym (is_some-map object_of (by_fd ws fd)) ∙ e

numbers : (o : Option ℕ) (x : Obj) → option_map numbered o ≡ Some x → o ≡ Some x.0
numbers None x e = cc
numbers (Some n) x e = let is : numbered n ≡ x = cc in ap (λ (z : Obj). Some z.0) is

module _ (F F' : ℕ → Option ℕ) (ws : List Watch) (k : AreHolders F ws) where
  pub holders-added : (w : Watch) → is_some (by_fd ws w.fd) ≡ false → ((q : ℕ) → F' q ≡ cond (nat_eq w.fd q) (Some w.object.0) (F q)) → AreHolders F' (ws ++ w ∷ [])
  holders-added w out h = record {
    once = once-added (λ (v : Watch). v.fd) ws w k.once out;
    holder = λ q. ap (option_map numbered) (h q) ∙ by_test (nat_eq w.fd q)
        (λ t. rw t (sym (ap (option_map object_of) (found-added (λ (v : Watch). v.fd) ws w q ∙ ap (λ o. option_or o (if nat_eq w.fd q then Some w else None)) (ap (by_fd ws) (sym (eqb-true w.fd q t)) ∙ none _ out)) ∙ rw t refl)))
        (λ t. rw t (k.holder q ∙ sym (ap (option_map object_of) (found-added (λ (v : Watch). v.fd) ws w q) ∙ rw t (or_none (by_fd ws q)))));
  }
    where
      or_none : (o : Option Watch) → option_map object_of (option_or o None) ≡ option_map object_of o
      or_none None = refl
      or_none (Some v) = refl

  pub holders-gone : (x : Obj) (w : Watch) → AreEventsOnce ws → watch_of ws x ≡ Some w → ((q : ℕ) → F' q ≡ cond (nat_eq w.fd q) None (F q)) → AreHolders F' (unwatched ws x)
  holders-gone x w a e h = record {
    once = once-filtered (λ (v : Watch). v.fd) (λ v. not (same v.object x)) ws k.once;
    holder = λ q. ap (option_map numbered) (h q) ∙ by_test (nat_eq w.fd q)
        (λ t. rw t (sym (ap (option_map object_of) (gone-fd ws x w a k.once e q) ∙ rw t refl)))
        (λ t. rw t (k.holder q ∙ sym (ap (option_map object_of) (gone-fd ws x w a k.once e q) ∙ rw t refl)));
  }

  pub holders-changed : (f : Watch → Watch) (x : Obj) → ((w : Watch) → (f w).fd ≡ w.fd) → ((w : Watch) → (f w).object ≡ w.object) → ((q : ℕ) → F' q ≡ F q) → AreHolders F' (rewatched f ws x)
  holders-changed f x fds objects h = record {
    once = once-changed (λ (v : Watch). v.fd) g kept ws k.once;
    holder = λ q. ap (option_map numbered) (h q) ∙ k.holder q ∙ sym (ap (option_map object_of) (found-changed (λ (v : Watch). v.fd) g kept ws q) ∙ owns (by_fd ws q));
  }
    where
      g : Watch → Watch
      g w = if same w.object x then f w else w

      kept : (w : Watch) → (g w).fd ≡ w.fd
      kept w = by_test (same w.object x) (λ t. rw t (fds w)) (λ t. rw t refl)

      owns : (o : Option Watch) → option_map object_of (option_map g o) ≡ option_map object_of o
      owns None = refl
      owns (Some w) = ap Some (by_test (same w.object x) (λ t. rw t (objects w)) (λ t. rw t refl))

pub holders-turned : (F : ℕ → Option ℕ) (ws : List Watch) (x : Obj) (w : Watch) → AreEventsOnce ws → watch_of ws x ≡ Some w → AreHolders F ws → AreHolders F (unwatched ws x ++ w ∷ [])
holders-turned F ws x w a e k =
    holders-added (λ q. cond (nat_eq w.fd q) None (F q)) F (unwatched ws x) (holders-gone F _ ws k x w a e (λ q. refl)) w
    (ap is_some (gone-fd ws x w a k.once e w.fd) ∙ rw (eqb-self w.fd) refl)
    (λ q. by_test (nat_eq w.fd q)
    (λ t. rw t (ap F (sym (eqb-true w.fd q t)) ∙ numbers (F w.fd) w.object (k.holder w.fd ∙ ap (option_map object_of) (watch-fd ws x w k.once e))))
    (λ t. rw t refl))

-- the same where it watches in another context
pub holders-again : (F : ℕ → Option ℕ) (ws : List Watch) (x : Obj) (v w : Watch) → AreEventsOnce ws → watch_of ws x ≡ Some v → w.object ≡ x → w.fd ≡ v.fd → AreHolders F ws
    → is_some (by_fd (unwatched ws x) w.fd) ≡ false → AreHolders F (unwatched ws x ++ w ∷ [])
holders-again F ws x v w a e own fd k free =
    holders-added (λ q. cond (nat_eq v.fd q) None (F q)) F (unwatched ws x) (holders-gone F _ ws k x v a e (λ q. refl)) w free
    (λ q. by_test (nat_eq v.fd q)
    (λ t. let u : nat_eq w.fd q ≡ true = ap (λ (n : ℕ). nat_eq n q) fd ∙ t in
    rw u (ap F (sym (eqb-true v.fd q t)) ∙ numbers (F v.fd) v.object (k.holder v.fd ∙ ap (option_map object_of) (watch-fd ws x v k.once e)) ∙ ap (λ (y : Obj). Some y.0) (watch-object ws x v e ∙ sym own)))
    (λ t. let u : nat_eq w.fd q ≡ false = ap (λ (n : ℕ). nat_eq n q) fd ∙ t in rw (u, t) refl))
