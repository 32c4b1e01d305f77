-- Which events watch, and which descriptors are watched, after the rotation is changed; each event stands once in it, and each
-- descriptor.
use Rattle.std.proofs.Common.{◌≡◌, ◌≢◌, ℕ, nat_eq, Bool, true, false, List, [], ◌∷◌, ◌++◌, Option, Some, None, is_some, refl, sym, ◌∙◌, ap, subst, ◌⊎◌, inl, inr}
use Rattle.std.proofs.lemmas.Bool.{eqb-true, eq-eqb}
use Rattle.std.specs.List.{find, filter}
use Rattle.std.specs.Option.{option_map}
use Rattle.std.specs.Prelude.{not, map}
use Rattle.tree_specs.specs.declared.object.Obj.{Obj}
use Rattle.tree_specs.specs.declared.watch.Watch.{Watch}
use Rattle.tree_specs.specs.Words.Objects.{same, is_same}
use Rattle.tree_specs.specs.Events.Rotation.{watch_of, is_watching, is_watched, closed_by, closes_with, watched, unwatched, rewatched, behind_all, turned_back, lost, ring_in, ring_without}
use Rattle.tree_specs.specs.Invariants.Awaiting.{AreDistinct}
use Rattle.tree_specs.proofs.Tree.Numbered.{same-equal, by_test, same-true}

-- ---- one that passes a test

abbrev found : (Watch → Bool) → List Watch → Bool
found q ws = is_some (find q ws)

abbrev of_object : Obj → Watch → Bool
of_object x w = same w.object x

abbrev of_descriptor : ℕ → Watch → Bool
of_descriptor fd w = nat_eq w.fd fd

watched-found : (ws : List Watch) (fd : ℕ) → is_watched ws fd ≡ found (of_descriptor fd) ws
watched-found ws fd = each (find (of_descriptor fd) ws)
  where
    each : (o : Option Watch) → is_some (option_map (λ (w : Watch). w.object) o) ≡ is_some o
    each None = refl
    each (Some w) = refl

found-unwatched : (q : Watch → Bool) (ws : List Watch) (x : Obj) → found q (unwatched ws x) ≡ true → found q ws ≡ true
found-unwatched q [] x h = h
found-unwatched q (w ∷ ws) x h = by_test (q w)
    (λ u. rw u refl)
    (λ u. rw u (found-unwatched q ws x (by_test (same w.object x) (λ t. rw t at h) (λ t. rw (t, u) at h))))

found-pushed : (q : Watch → Bool) (ws : List Watch) (w : Watch) → found q (ws ++ w ∷ []) ≡ true → (found q ws ≡ true) ⊎ (q w ≡ true)
found-pushed q [] w h = by_test (q w) (λ u. inr u) (λ u. let bad : false ≡ true = rw u at h in cc)
found-pushed q (v ∷ ws) w h = by_test (q v) (λ u. inl (rw u refl)) (λ u. rw u (found-pushed q ws w (rw u at h)))

found-rewatched : (q : Watch → Bool) (change : Watch → Watch) (ws : List Watch) (x : Obj) → ((w : Watch) → q (change w) ≡ q w) → found q (rewatched change ws x) ≡ found q ws
found-rewatched q change [] x k = refl
found-rewatched q change (w ∷ ws) x k =
    let ih = found-rewatched q change ws x k in
    by_test (same w.object x)
    (λ t. by_test (q w) (λ u. rw (t, k w, u) refl) (λ u. rw (t, k w, u) ih))
    (λ t. by_test (q w) (λ u. rw (t, u) refl) (λ u. rw (t, u) ih))

-- ---- which are found after a change

pub unwatched-watching : (ws : List Watch) (x y : Obj) → is_watching (unwatched ws x) y ≡ true → is_watching ws y ≡ true
unwatched-watching ws x y h = found-unwatched (of_object y) ws x h

pub unwatched-watched : (ws : List Watch) (x : Obj) (fd : ℕ) → is_watched (unwatched ws x) fd ≡ true → is_watched ws fd ≡ true
unwatched-watched ws x fd h = watched-found ws fd ∙ found-unwatched (of_descriptor fd) ws x (sym (watched-found (unwatched ws x) fd) ∙ h)

-- what is left is another event
pub unwatched-other : (ws : List Watch) (x y : Obj) → is_watching (unwatched ws x) y ≡ true → (is_watching ws y ≡ true) × (x ≢ y)
unwatched-other ws x y h = (unwatched-watching ws x y h, λ e. gone ws (subst (λ (z : Obj). is_watching (unwatched ws x) z ≡ true) (sym e) h))
  where
    gone : (ws : List Watch) → is_watching (unwatched ws x) x ≡ true → ⊥
    gone [] h = cc
    gone (w ∷ ws) h = by_test (same w.object x) (λ t. gone ws (rw t at h)) (λ t. gone ws (rw (t, t) at h))

pub watched-watching : (ws : List Watch) (x : Obj) (fd flags : ℕ) (c y : Obj) → is_watching (watched ws x fd flags c) y ≡ true → (is_watching ws y ≡ true) ⊎ (x ≡ y)
watched-watching ws x fd flags c y h = elim (found-pushed (of_object y) ws _ h) [
  | inl l ↦ inl l
  | inr e ↦ inr (same-true x y e)
]

pub watched-watched : (ws : List Watch) (x : Obj) (fd flags : ℕ) (c : Obj) (g : ℕ) → is_watched (watched ws x fd flags c) g ≡ true → (is_watched ws g ≡ true) ⊎ (fd ≡ g)
watched-watched ws x fd flags c g h = elim (found-pushed (of_descriptor g) ws _ (sym (watched-found (watched ws x fd flags c) g) ∙ h)) [
  | inl l ↦ inl (watched-found ws g ∙ l)
  | inr e ↦ inr (eqb-true fd g e)
]

pub rewatched-watching : (change : Watch → Watch) (ws : List Watch) (x y : Obj) → ((w : Watch) → (change w).object ≡ w.object) → is_watching (rewatched change ws x) y ≡ is_watching ws y
rewatched-watching change ws x y k = found-rewatched (of_object y) change ws x (λ w. ap (λ (z : Obj). same z y) (k w))

pub rewatched-watched : (change : Watch → Watch) (ws : List Watch) (x : Obj) (fd : ℕ) → ((w : Watch) → (change w).fd ≡ w.fd) → is_watched (rewatched change ws x) fd ≡ is_watched ws fd
rewatched-watched change ws x fd k =
    watched-found (rewatched change ws x) fd ∙ found-rewatched (of_descriptor fd) change ws x (λ w. ap (λ (n : ℕ). nat_eq n fd) (k w)) ∙ sym (watched-found ws fd)

-- ---- how an event watches

watch-own : (ws : List Watch) (x : Obj) (w : Watch) → watch_of ws x ≡ Some w → w.object ≡ x
watch-own [] x w e = cc
watch-own (v ∷ ws) x w e = by_test (same v.object x)
    (λ t. let e' : Some v ≡ Some w = rw t at e in let is : v ≡ w = cc in subst (λ (z : Watch). z.object ≡ x) is (same-true v.object x t))
    (λ t. watch-own ws x w (rw t at e))

watch-found : (ws : List Watch) (x : Obj) (w : Watch) → watch_of ws x ≡ Some w → found (of_descriptor w.fd) ws ≡ true
watch-found [] x w e = cc
watch-found (v ∷ ws) x w e = by_test (nat_eq v.fd w.fd)
    (λ u. rw u refl)
    (λ u. rw u (watch-found ws x w (by_test (same v.object x)
    (λ t.
    let e' : Some v ≡ Some w = rw t at e in
    let is : v ≡ w = cc in
    let same_fd : nat_eq v.fd w.fd ≡ true = eq-eqb v.fd w.fd (ap (λ (z : Watch). z.fd) is) in
    let bad : true ≡ false = sym same_fd ∙ u in cc)
    (λ t. rw t at e))))

-- what it watches is watched
pub watch-watched : (ws : List Watch) (x : Obj) (w : Watch) → watch_of ws x ≡ Some w → is_watched ws w.fd ≡ true
watch-watched ws x w e = watched-found ws w.fd ∙ watch-found ws x w e

pub closes-found : (ws : List Watch) (x : Obj) (fd : ℕ) → closes_with ws x ≡ Some fd → (w : Watch) × (watch_of ws x ≡ Some w) × (w.fd ≡ fd)
closes-found ws x fd e = each (watch_of ws x) refl e
  where
    each : (o : Option Watch) → watch_of ws x ≡ o → closed_by o ≡ Some fd → (w : Watch) × (watch_of ws x ≡ Some w) × (w.fd ≡ fd)
    each None is e = cc
    each (Some w) is e = by_test w.closes
        (λ t. let e' : Some w.fd ≡ Some fd = rw t at e in (w, is, cc))
        (λ t. let e' : None ≡ Some fd = rw t at e in cc)

-- ---- each once

-- what would be true of the second is not true of the first
not-more : (a b : Bool) → (a ≡ true → b ≡ true) → b ≡ false → a ≡ false
not-more true b h e = let bad : true ≡ false = sym (h refl) ∙ e in cc
not-more false b h e = refl

other-way : (m n : ℕ) → nat_eq m n ≡ false → nat_eq n m ≡ false
other-way m n e = not-more (nat_eq n m) (nat_eq m n) (λ t. eq-eqb m n (sym (eqb-true n m t))) e

none-pushed : (q : Watch → Bool) (ws : List Watch) (w : Watch) → found q ws ≡ false → q w ≡ false → found q (ws ++ w ∷ []) ≡ false
none-pushed q ws w a b = not-more (found q (ws ++ w ∷ [])) (found q ws) (λ t. elim (found-pushed q ws w t) [
  | inl l ↦ l
  | inr e ↦ let bad : true ≡ false = sym e ∙ b in cc
]) a

none-behind : (q : Watch → Bool) (v : Watch) (ws : List Watch) → found q (v ∷ ws) ≡ false → (q v ≡ false) × (found q ws ≡ false)
none-behind q v ws e = by_test (q v)
    (λ u. let bad : true ≡ false = rw u at e in cc)
    (λ u. (u, rw u at e))

pub unwatched-distinct : (ws : List Watch) (x : Obj) → AreDistinct ws → AreDistinct (unwatched ws x)
unwatched-distinct [] x d = tt
unwatched-distinct (w ∷ ws) x d = by_test (same w.object x)
    (λ t. rw t (unwatched-distinct ws x d.2))
    (λ t. rw t (
      not-more (is_watching (unwatched ws x) w.object) (is_watching ws w.object) (unwatched-watching ws x w.object) d.0,
      not-more (is_watched (unwatched ws x) w.fd) (is_watched ws w.fd) (unwatched-watched ws x w.fd) d.1,
      unwatched-distinct ws x d.2,
    ))

pushed-distinct : (ws : List Watch) (w : Watch) → AreDistinct ws → is_watching ws w.object ≡ false → is_watched ws w.fd ≡ false → AreDistinct (ws ++ w ∷ [])
pushed-distinct [] w d a b = (refl, refl, tt)
pushed-distinct (v ∷ ws) w d a b =
    let a' = none-behind (of_object w.object) v ws a in
    let b' = none-behind (of_descriptor w.fd) v ws (sym (watched-found (v ∷ ws) w.fd) ∙ b) in (
      none-pushed (of_object v.object) ws w d.0 (other-way v.object.0 w.object.0 a'.0),
      watched-found (ws ++ w ∷ []) v.fd ∙ none-pushed (of_descriptor v.fd) ws w (sym (watched-found ws v.fd) ∙ d.1) (other-way v.fd w.fd b'.0),
      pushed-distinct ws w d.2 a'.1 (watched-found ws w.fd ∙ b'.1),
    )

pub watched-distinct : (ws : List Watch) (x : Obj) (fd flags : ℕ) (c : Obj) → AreDistinct ws → is_watching ws x ≡ false → is_watched ws fd ≡ false → AreDistinct (watched ws x fd flags c)
watched-distinct ws x fd flags c d a b = pushed-distinct ws (record { object = x; fd = fd; flags = flags; closes = false; context = Some c }) d a b

pub rewatched-distinct : (change : Watch → Watch) (ws : List Watch) (x : Obj) → ((w : Watch) → (change w).object ≡ w.object) → ((w : Watch) → (change w).fd ≡ w.fd) → AreDistinct ws → AreDistinct (rewatched change ws x)
rewatched-distinct change [] x same_object same_fd d = tt
rewatched-distinct change (w ∷ ws) x same_object same_fd d =
    let here : (is_watching (rewatched change ws x) w.object ≡ false) × (is_watched (rewatched change ws x) w.fd ≡ false) =
    (rewatched-watching change ws x w.object same_object ∙ d.0, rewatched-watched change ws x w.fd same_fd ∙ d.1) in
    let ih = rewatched-distinct change ws x same_object same_fd d.2 in
    by_test (same w.object x)
    (λ t. rw (t, same_object w, same_fd w) (here.0, here.1, ih))
    (λ t. rw t (here.0, here.1, ih))

-- nobody watches the descriptor of an event that is taken out
pub unwatched-freed : (ws : List Watch) (x : Obj) (w : Watch) → AreDistinct ws → watch_of ws x ≡ Some w → is_watched (unwatched ws x) w.fd ≡ false
unwatched-freed ws x w d e = watched-found (unwatched ws x) w.fd ∙ each ws d e
  where
    each : (ws : List Watch) → AreDistinct ws → watch_of ws x ≡ Some w → found (of_descriptor w.fd) (unwatched ws x) ≡ false
    each [] d e = refl
    each (v ∷ ws) d e = by_test (same v.object x)
        (λ t.
        let e' : Some v ≡ Some w = rw t at e in
        let is : v ≡ w = cc in
        let none : is_watched ws w.fd ≡ false = subst (λ (z : Watch). is_watched ws z.fd ≡ false) is d.1 in
        rw t (not-more (found (of_descriptor w.fd) (unwatched ws x)) (found (of_descriptor w.fd) ws) (found-unwatched (of_descriptor w.fd) ws x) (sym (watched-found ws w.fd) ∙ none)))
        (λ t.
        let e' : watch_of ws x ≡ Some w = rw t at e in
        by_test (nat_eq v.fd w.fd)
        (λ u.
        let none : is_watched ws w.fd ≡ false = subst (λ (n : ℕ). is_watched ws n ≡ false) (eqb-true v.fd w.fd u) d.1 in
        let bad : true ≡ false = sym (watch-watched ws x w e') ∙ none in cc)
        (λ u. rw (t, u) (each ws d.2 e')))

-- ---- to the end

pub turned-watching : (ws : List Watch) (x y : Obj) → is_watching (turned_back ws x) y ≡ true → is_watching ws y ≡ true
turned-watching ws x y = each (watch_of ws x) refl
  where
    each : (o : Option Watch) → watch_of ws x ≡ o → is_watching (behind_all (unwatched ws x) o) y ≡ true → is_watching ws y ≡ true
    each None e h = unwatched-watching ws x y h
    each (Some w) e h = elim (found-pushed (of_object y) (unwatched ws x) w h) [
      | inl l ↦ unwatched-watching ws x y l
      | inr q ↦ subst (λ (z : Obj). is_watching ws z ≡ true) (sym (watch-own ws x w e) ∙ same-true w.object y q) (ap is_some e)
    ]

pub turned-watched : (ws : List Watch) (x : Obj) (fd : ℕ) → is_watched (turned_back ws x) fd ≡ true → is_watched ws fd ≡ true
turned-watched ws x fd = each (watch_of ws x) refl
  where
    each : (o : Option Watch) → watch_of ws x ≡ o → is_watched (behind_all (unwatched ws x) o) fd ≡ true → is_watched ws fd ≡ true
    each None e h = unwatched-watched ws x fd h
    each (Some w) e h = elim (found-pushed (of_descriptor fd) (unwatched ws x) w (sym (watched-found (unwatched ws x ++ w ∷ []) fd) ∙ h)) [
      | inl l ↦ unwatched-watched ws x fd (watched-found (unwatched ws x) fd ∙ l)
      | inr q ↦ subst (λ (n : ℕ). is_watched ws n ≡ true) (eqb-true w.fd fd q) (watch-watched ws x w e)
    ]

pub turned-distinct : (ws : List Watch) (x : Obj) → AreDistinct ws → AreDistinct (turned_back ws x)
turned-distinct ws x d = each (watch_of ws x) refl
  where
    each : (o : Option Watch) → watch_of ws x ≡ o → AreDistinct (behind_all (unwatched ws x) o)
    each None e = unwatched-distinct ws x d
    each (Some w) e =
        pushed-distinct (unwatched ws x) w (unwatched-distinct ws x d)
        (by_test (is_watching (unwatched ws x) w.object) (λ t. absurd ((unwatched-other ws x w.object t).1 (sym (watch-own ws x w e)))) (λ t. t))
        (unwatched-freed ws x w d e)

-- ---- events that are lost with their context

-- what is found among those that stay, or among the lost, was found
found-kept : (q keep : Watch → Bool) (ws : List Watch) → found q (filter keep ws) ≡ true → found q ws ≡ true
found-kept q keep [] h = h
found-kept q keep (w ∷ ws) h = by_test (q w)
    (λ u. rw u refl)
    (λ u. rw u (found-kept q keep ws (by_test (keep w) (λ t. rw (t, u) at h) (λ t. rw t at h))))

found-mapped : (q : Watch → Bool) (ws : List Watch) → ((w : Watch) → q (lost w) ≡ q w) → found q (map lost ws) ≡ found q ws
found-mapped q [] k = refl
found-mapped q (w ∷ ws) k =
    let ih = found-mapped q ws k in
    by_test (q w) (λ u. rw (k w, u) refl) (λ u. rw (k w, u) ih)

found-joined : (q : Watch → Bool) (ws vs : List Watch) → found q (ws ++ vs) ≡ true → (found q ws ≡ true) ⊎ (found q vs ≡ true)
found-joined q [] vs h = inr h
found-joined q (w ∷ ws) vs h = by_test (q w) (λ u. inl (rw u refl)) (λ u. elim (found-joined q ws vs (rw u at h)) [
  | inl l ↦ inl (rw u l)
  | inr r ↦ inr r
])

found-without : (q : Watch → Bool) (ws : List Watch) (c : Obj) → ((w : Watch) → q (lost w) ≡ q w) → found q (ring_without ws c) ≡ true → found q ws ≡ true
found-without q ws c k h = elim (found-joined q (filter (λ w. not (is_same w.context c)) ws) (map lost (ring_in ws c)) h) [
  | inl l ↦ found-kept q (λ w. not (is_same w.context c)) ws l
  | inr r ↦ found-kept q (λ w. is_same w.context c) ws (sym (found-mapped q (ring_in ws c) k) ∙ r)
]

pub without-watching : (ws : List Watch) (c y : Obj) → is_watching (ring_without ws c) y ≡ true → is_watching ws y ≡ true
without-watching ws c y h = found-without (of_object y) ws c (λ w. refl) h

pub without-watched : (ws : List Watch) (c : Obj) (fd : ℕ) → is_watched (ring_without ws c) fd ≡ true → is_watched ws fd ≡ true
without-watched ws c fd h = watched-found ws fd ∙ found-without (of_descriptor fd) ws c (λ w. refl) (sym (watched-found (ring_without ws c) fd) ∙ h)

kept-distinct : (keep : Watch → Bool) (ws : List Watch) → AreDistinct ws → AreDistinct (filter keep ws)
kept-distinct keep [] d = tt
kept-distinct keep (w ∷ ws) d = by_test (keep w)
    (λ t. rw t (
      not-more (is_watching (filter keep ws) w.object) (is_watching ws w.object) (found-kept (of_object w.object) keep ws) d.0,
      watched-found (filter keep ws) w.fd ∙ not-more (found (of_descriptor w.fd) (filter keep ws)) (found (of_descriptor w.fd) ws) (found-kept (of_descriptor w.fd) keep ws) (sym (watched-found ws w.fd) ∙ d.1),
      kept-distinct keep ws d.2,
    ))
    (λ t. rw t (kept-distinct keep ws d.2))

-- two lists of distinct events that share nothing
joined-distinct : (ws vs : List Watch) → AreDistinct ws → AreDistinct vs
    → ((w : Watch) → found (of_object w.object) vs ≡ true → found (of_object w.object) ws ≡ false)
    → ((w : Watch) → found (of_descriptor w.fd) vs ≡ true → found (of_descriptor w.fd) ws ≡ false) → AreDistinct (ws ++ vs)
joined-distinct [] vs d e objects fds = e
joined-distinct (w ∷ ws) vs d e objects fds = (
  apart (of_object w.object) d.0 (by_test (found (of_object w.object) vs) (λ t. absurd (first-found w t (objects w t))) (λ t. t)),
  watched-found (ws ++ vs) w.fd ∙ apart (of_descriptor w.fd) (sym (watched-found ws w.fd) ∙ d.1) (by_test (found (of_descriptor w.fd) vs) (λ t. absurd (first-watched w t (fds w t))) (λ t. t)),
  joined-distinct ws vs d.2 e (λ v t. (none-behind (of_object v.object) w ws (objects v t)).1) (λ v t. (none-behind (of_descriptor v.fd) w ws (fds v t)).1),
)
  where
    apart : (q : Watch → Bool) → found q ws ≡ false → found q vs ≡ false → found q (ws ++ vs) ≡ false
    apart q a b = by_test (found q (ws ++ vs)) (λ t. elim (found-joined q ws vs t) [
      | inl l ↦ let bad : true ≡ false = sym l ∙ a in cc
      | inr r ↦ let bad : true ≡ false = sym r ∙ b in cc
    ]) (λ t. t)

    first-found : (w : Watch) → found (of_object w.object) vs ≡ true → found (of_object w.object) (w ∷ ws) ≡ false → ⊥
    first-found w t h = let self : same w.object w.object ≡ true = same-equal w.object w.object refl in let bad : true ≡ false = rw self at h in cc

    first-watched : (w : Watch) → found (of_descriptor w.fd) vs ≡ true → found (of_descriptor w.fd) (w ∷ ws) ≡ false → ⊥
    first-watched w t h = let self : nat_eq w.fd w.fd ≡ true = eq-eqb w.fd w.fd refl in let bad : true ≡ false = rw self at h in cc

-- at most one passes
abbrev Once : (Watch → Bool) → List Watch → Type 0
Once q [] = Unit {0}
Once q (w ∷ ws) = (q w ≡ true → found q ws ≡ false) × Once q ws

once-objects : (ws : List Watch) → AreDistinct ws → (v : Watch) → Once (of_object v.object) ws
once-objects [] d v = tt
once-objects (w ∷ ws) d v = (λ t. subst (λ (z : Obj). found (of_object z) ws ≡ false) (same-true w.object v.object t) d.0, once-objects ws d.2 v)

once-descriptors : (ws : List Watch) → AreDistinct ws → (v : Watch) → Once (of_descriptor v.fd) ws
once-descriptors [] d v = tt
once-descriptors (w ∷ ws) d v = (λ t. subst (λ (n : ℕ). found (of_descriptor n) ws ≡ false) (eqb-true w.fd v.fd t) (sym (watched-found ws w.fd) ∙ d.1), once-descriptors ws d.2 v)

-- one that is among the lost isn't among those that stay, where at most one passes
split : (q : Watch → Bool) (c : Obj) (ws : List Watch) → Once q ws → found q (ring_in ws c) ≡ true → found q (filter (λ w. not (is_same w.context c)) ws) ≡ false
split q c [] once h = cc
split q c (w ∷ ws) once h = by_test (is_same w.context c)
    (λ t. rw t (by_test (q w)
    (λ u. not-more (found q (filter (λ z. not (is_same z.context c)) ws)) (found q ws) (found-kept q (λ z. not (is_same z.context c)) ws) (once.0 u))
    (λ u. split q c ws once.1 (rw (t, u) at h))))
    (λ t.
    let h' : found q (ring_in ws c) ≡ true = rw t at h in
    let ih = split q c ws once.1 h' in
    by_test (q w)
    (λ u. let bad : true ≡ false = sym (found-kept q (λ z. is_same z.context c) ws h') ∙ once.0 u in cc)
    (λ u. rw (t, u) ih))

pub without-distinct : (ws : List Watch) (c : Obj) → AreDistinct ws → AreDistinct (ring_without ws c)
without-distinct ws c d =
    joined-distinct (filter (λ w. not (is_same w.context c)) ws) (map lost (ring_in ws c)) (kept-distinct (λ w. not (is_same w.context c)) ws d) (mapped-distinct (ring_in ws c) (kept-distinct (λ w. is_same w.context c) ws d))
    (λ v t. split-objects ws d v (sym (found-mapped (of_object v.object) (ring_in ws c) (λ w. refl)) ∙ t))
    (λ v t. split-descriptors ws d v (sym (found-mapped (of_descriptor v.fd) (ring_in ws c) (λ w. refl)) ∙ t))
  where
    mapped-distinct : (vs : List Watch) → AreDistinct vs → AreDistinct (map lost vs)
    mapped-distinct [] e = tt
    mapped-distinct (v ∷ vs) e = (
      found-mapped (of_object v.object) vs (λ w. refl) ∙ e.0,
      watched-found (map lost vs) v.fd ∙ found-mapped (of_descriptor v.fd) vs (λ w. refl) ∙ sym (watched-found vs v.fd) ∙ e.1,
      mapped-distinct vs e.2,
    )

    split-objects : (ws : List Watch) → AreDistinct ws → (v : Watch) → found (of_object v.object) (ring_in ws c) ≡ true → found (of_object v.object) (filter (λ w. not (is_same w.context c)) ws) ≡ false
    split-objects ws d v t = split (of_object v.object) c ws (once-objects ws d v) t

    split-descriptors : (ws : List Watch) → AreDistinct ws → (v : Watch) → found (of_descriptor v.fd) (ring_in ws c) ≡ true → found (of_descriptor v.fd) (filter (λ w. not (is_same w.context c)) ws) ≡ false
    split-descriptors ws d v t = split (of_descriptor v.fd) c ws (once-descriptors ws d v) t
