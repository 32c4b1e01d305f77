-- An event that watches a descriptor below its owner: which changes of a pool leave it so.
use Rattle.std.proofs.Common.{◌≡◌, ◌≢◌, ℕ, true, false, not, List, [], ◌∷◌, ◌++◌, Option, Some, None, refl, sym, ◌∙◌, ap, subst, inl, inr}
use Rattle.std.specs.Prelude.{is_some, map}
use Rattle.std.specs.List.{filter}
use Rattle.tree_specs.specs.declared.object.Obj.{Obj}
use Rattle.tree_specs.specs.declared.object.Owner.{Owner}
use Rattle.tree_specs.specs.declared.object.Owner.TheVariants.{Of}
use Rattle.tree_specs.specs.declared.kind.Kind.TheVariants.{Descriptor}
use Rattle.tree_specs.specs.declared.row.Row.{Row}
use Rattle.tree_specs.specs.declared.request.Note.{Note}
use Rattle.tree_specs.specs.declared.watch.Watch.{Watch}
use Rattle.tree_specs.specs.Words.Objects.{same, is_same}
use Rattle.tree_specs.specs.Tree.Pool.{Pool, row_of, changed, remove, place, let_go, edited}
use Rattle.tree_specs.specs.Events.Rotation.{watch_of, is_watching, unwatched, turned_back, behind_all, rewatched, lost, ring_in, ring_without}
use Rattle.tree_specs.specs.Events.Requests.{note_of, without_note, renoted}
use Rattle.tree_specs.proofs.Tree.Numbered.{by_test, same-true, same-equal, same-false, same_or_not}
use Rattle.tree_specs.proofs.Tree.Rows.{row_of-changed-other, row_of-changed-same, row_of-without-other, row_of-placed-other}
use Rattle.tree_specs.specs.Invariants.Awaiting.{AreDistinct}
use Rattle.tree_specs.proofs.Events.RotationLaws.{unwatched-distinct}
use Rattle.tree_specs.proofs.Events.NoteLaws.{forgotten-same, forgotten-other, renoted-same, renoted-none, renoted-other}

pub record Tended (e k : Obj) (fd : ℕ) (p : Pool) : Type 0 where
  pub row : Row
  pub is : row_of p.rows e ≡ Some row
  pub kind : row.kind ≡ Descriptor
  pub hook : row.hook ≡ 0
  pub owner : row.owner ≡ Some (Of k)
  pub watch : Watch
  pub watches : watch_of p.ring e ≡ Some watch
  pub on : watch.fd ≡ fd
  -- it was made with no request
  pub apart : (x : Obj) (n : Note) → note_of p.requests x ≡ Some n → n.child ≢ e

module _ (e k : Obj) (fd : ℕ) (p : Pool) (t : Tended e k fd p) where
  -- the notes are those that there were
  abbrev pub NoMore : Pool → Type 0
  NoMore q = (x : Obj) (n : Note) → note_of q.requests x ≡ Some n → (m : Note) × (note_of p.requests x ≡ Some m) × (n.child ≡ m.child)

  pub no-more : (q : Pool) → q.requests ≡ p.requests → NoMore q
  no-more q is x n h = (n, sym (ap (λ ns. note_of ns x) is) ∙ h, refl)

  pub tended-on : (q : Pool) → row_of q.rows e ≡ row_of p.rows e → watch_of q.ring e ≡ watch_of p.ring e → NoMore q → Tended e k fd q
  tended-on q rows ring notes = record {
    row = t.row;
    is = rows ∙ t.is;
    kind = t.kind;
    hook = t.hook;
    owner = t.owner;
    watch = t.watch;
    watches = ring ∙ t.watches;
    on = t.on;
    apart = λ x n h same. let m = notes x n h in t.apart x m.0 m.1 (sym m.2 ∙ same);
  }

  -- a row is changed in what isn't said of it
  pub tended-edited : (g : Row → Row) (x : Obj) → ((r : Row) → (g r).serial ≡ r.serial) → ((r : Row) → (g r).kind ≡ r.kind) → ((r : Row) → r.hook ≡ 0 → (g r).hook ≡ 0) → ((r : Row) → (g r).owner ≡ r.owner) → Tended e k fd (edited p x g)
  tended-edited g x serial kind hook owner = elim (same_or_not x e) [ inl is ↦ here is | inr other ↦ tended-on (edited p x g) (row_of-changed-other g p.rows x e serial other) refl (no-more (edited p x g) refl) ]
    where
      here : x ≡ e → Tended e k fd (edited p x g)
      here is = record {
        row = g t.row;
        is = ap (λ (z : Obj). row_of (changed g p.rows z) e) is ∙ row_of-changed-same g p.rows e t.row serial t.is;
        kind = kind t.row ∙ t.kind;
        hook = hook t.row t.hook;
        owner = owner t.row ∙ t.owner;
        watch = t.watch;
        watches = t.watches;
        on = t.on;
        apart = t.apart;
      }

  -- and a row of another object in anything
  pub tended-other : (g : Row → Row) (x : Obj) → ((r : Row) → (g r).serial ≡ r.serial) → x ≢ e → Tended e k fd (edited p x g)
  tended-other g x serial ne = tended-on (edited p x g) (row_of-changed-other g p.rows x e serial ne) refl (no-more (edited p x g) refl)

  unwatched-of : (ws : List Watch) (x : Obj) → x ≢ e → watch_of (unwatched ws x) e ≡ watch_of ws e
  unwatched-of [] x ne = refl
  unwatched-of (w ∷ ws) x ne = by_test (same w.object x)
      (λ a. let b : same w.object e ≡ false = same-false w.object e (λ i. ne (sym (same-true w.object x a) ∙ i)) in rw (a, b) (unwatched-of ws x ne))
      (λ a. by_test (same w.object e) (λ b. rw (a, b) refl) (λ b. rw (a, b) (unwatched-of ws x ne)))

  -- what watches stands before what is put behind it
  pub before-others : (ws : List Watch) (w : Watch) → watch_of ws e ≡ Some w → (vs : List Watch) → watch_of (ws ++ vs) e ≡ Some w
  before-others [] w h vs = cc
  before-others (u ∷ ws) w h vs = by_test (same u.object e) (λ a. let h' : Some u ≡ Some w = rw a at h in rw a h') (λ a. rw a (before-others ws w (rw a at h) vs))

  behind-others : (ws vs : List Watch) → watch_of ws e ≡ None → watch_of (ws ++ vs) e ≡ watch_of vs e
  behind-others [] vs h = refl
  behind-others (u ∷ ws) vs h = by_test (same u.object e) (λ a. let bad : Some u ≡ None = rw a at h in cc) (λ a. rw a (behind-others ws vs (rw a at h)))

  abbrev others_than : Obj → List Watch → List Watch
  others_than c ws = filter (λ w. not (is_same w.context c)) ws

  none-of : (ws : List Watch) (c : Obj) → watch_of ws e ≡ None → watch_of (others_than c ws) e ≡ None
  none-of [] c h = refl
  none-of (u ∷ ws) c h = by_test (same u.object e)
      (λ a. let bad : Some u ≡ None = rw a at h in cc)
      (λ a. let h' : watch_of ws e ≡ None = rw a at h in by_test (is_same u.context c) (λ b. rw b (none-of ws c h')) (λ b. rw b (rw a (none-of ws c h'))))

  -- an event of another context stays
  stays-of : (ws : List Watch) (c : Obj) (w : Watch) → watch_of ws e ≡ Some w → is_same w.context c ≡ false → watch_of (others_than c ws) e ≡ Some w
  stays-of [] c w h other = cc
  stays-of (u ∷ ws) c w h other = by_test (same u.object e)
      (λ a. let h' : Some u ≡ Some w = rw a at h in let is : u ≡ w = cc in let b : is_same u.context c ≡ false = ap (λ (z : Watch). is_same z.context c) is ∙ other in rw b (rw a h'))
      (λ a. let h' : watch_of ws e ≡ Some w = rw a at h in by_test (is_same u.context c) (λ b. rw b (stays-of ws c w h' other)) (λ b. rw b (rw a (stays-of ws c w h' other))))

  -- and one of this context is lost
  goes-of : (ws : List Watch) (c : Obj) (w : Watch) → AreDistinct ws → watch_of ws e ≡ Some w → is_same w.context c ≡ true → watch_of (others_than c ws) e ≡ None
  goes-of [] c w d h here = cc
  goes-of (u ∷ ws) c w d h here = by_test (same u.object e)
      (λ a.
      let h' : Some u ≡ Some w = rw a at h in
      let is : u ≡ w = cc in
      let b : is_same u.context c ≡ true = ap (λ (z : Watch). is_same z.context c) is ∙ here in
      let alone : is_watching ws e ≡ false = subst (λ (z : Obj). is_watching ws z ≡ false) (same-true u.object e a) d.0 in
      rw b (none-of ws c (unfound (watch_of ws e) alone)))
      (λ a. let h' : watch_of ws e ≡ Some w = rw a at h in by_test (is_same u.context c) (λ b. rw b (goes-of ws c w d.2 h' here)) (λ b. rw b (rw a (goes-of ws c w d.2 h' here))))
    where
      unfound : (o : Option Watch) → is_some o ≡ false → o ≡ None
      unfound None i = refl
      unfound (Some v) i = cc

  lost-of : (ws : List Watch) (c : Obj) (w : Watch) → watch_of ws e ≡ Some w → is_same w.context c ≡ true → watch_of (map lost (ring_in ws c)) e ≡ Some (lost w)
  lost-of [] c w h here = cc
  lost-of (u ∷ ws) c w h here = by_test (same u.object e)
      (λ a. let h' : Some u ≡ Some w = rw a at h in let is : u ≡ w = cc in let b : is_same u.context c ≡ true = ap (λ (z : Watch). is_same z.context c) is ∙ here in rw b (rw a (ap (λ (z : Watch). Some (lost z)) is)))
      (λ a. let h' : watch_of ws e ≡ Some w = rw a at h in by_test (is_same u.context c) (λ b. rw b (rw a (lost-of ws c w h' here))) (λ b. rw b (lost-of ws c w h' here)))

  -- where a context goes, an event watches its descriptor as before
  parted-of : (ws : List Watch) (c : Obj) (w : Watch) → AreDistinct ws → watch_of ws e ≡ Some w → (v : Watch) × (watch_of (ring_without ws c) e ≡ Some v) × (v.fd ≡ w.fd)
  parted-of ws c w d h = by_test (is_same w.context c)
      (λ here. (lost w, behind-others (others_than c ws) (map lost (ring_in ws c)) (goes-of ws c w d h here) ∙ lost-of ws c w h here, refl))
      (λ other. (w, before-others (others_than c ws) w (stays-of ws c w h other) (map lost (ring_in ws c)), refl))

  pub tended-gone : (g : Row → Row) (x : Obj) → ((r : Row) → (g r).serial ≡ r.serial) → AreDistinct p.ring → x ≢ e → Tended e k fd (let_go p x g)
  tended-gone g x serial distinct ne =
      let w = parted-of (unwatched p.ring x) x t.watch (unwatched-distinct p.ring x distinct) (unwatched-of p.ring x ne ∙ t.watches) in record {
        row = t.row;
        is = row_of-changed-other g p.rows x e serial ne ∙ t.is;
        kind = t.kind;
        hook = t.hook;
        owner = t.owner;
        watch = w.0;
        watches = w.1;
        on = w.2 ∙ t.on;
        apart = t.apart;
      }

  pub tended-removed : (x : Obj) → x ≢ e → Tended e k fd (remove p x)
  tended-removed x ne = tended-on (remove p x) (row_of-without-other p.rows x e ne) refl notes
    where
      notes : NoMore (remove p x)
      notes y n h = elim (same_or_not x y) [
        | inl is ↦ let h' : note_of (without_note p.requests x) x ≡ Some n = ap (note_of (without_note p.requests x)) is ∙ h in let i = forgotten-same p.requests x in let bad : None ≡ Some n = sym i ∙ h' in absurd (no bad)
        | inr other ↦ (n, sym (forgotten-other p.requests x y other) ∙ h, refl)
      ]
        where
          no : None ≡ Some n → ⊥
          no bad = cc

  pub tended-placed : (o : Owner) (x : Obj) → x ≢ e → Tended e k fd (place p o x)
  tended-placed o x ne = each (row_of p.rows x) refl
    where
      each : (r : Option Row) → row_of p.rows x ≡ r → Tended e k fd (place p o x)
      each None i = tended-on (place p o x) (rw i (row_of-without-other p.rows x e ne)) refl (no-more (place p o x) refl)
      each (Some r) i = tended-on (place p o x) (row_of-placed-other p o x e r i ne) refl (no-more (place p o x) refl)

  -- what is kept of a request is changed
  pub notes-renoted : (g : Note → Note) (q : Pool) (x : Obj) → q.requests ≡ renoted g p.requests x → ((n : Note) → (g n).child ≡ n.child) → NoMore q
  notes-renoted g q x is child y n h = elim (same_or_not x y) [
    | inl i ↦ own (note_of p.requests x) refl i
    | inr other ↦ (n, sym (ap (λ ns. note_of ns y) is ∙ renoted-other g p.requests x y other) ∙ h, refl)
  ]
    where
      there : note_of (renoted g p.requests x) y ≡ Some n
      there = sym (ap (λ ns. note_of ns y) is) ∙ h

      own : (o : Option Note) → note_of p.requests x ≡ o → x ≡ y → (m : Note) × (note_of p.requests y ≡ Some m) × (n.child ≡ m.child)
      own None i s =
          let a : note_of (renoted g p.requests x) x ≡ None = renoted-none g p.requests x i in
          let b : note_of (renoted g p.requests x) x ≡ Some n = ap (note_of (renoted g p.requests x)) s ∙ there in
          let bad : None ≡ Some n = sym a ∙ b in cc
      own (Some m) i s =
          let a : note_of (renoted g p.requests x) x ≡ Some (g m) = renoted-same g p.requests x m i in
          let b : note_of (renoted g p.requests x) x ≡ Some n = ap (note_of (renoted g p.requests x)) s ∙ there in
          let c : Some (g m) ≡ Some n = sym a ∙ b in
          let c' : g m ≡ n = cc in
          (m, sym (ap (note_of p.requests) s) ∙ i, sym (ap (λ (z : Note). z.child) c') ∙ child m)

  -- an event goes to the end of the rotation
  alone-of : (ws : List Watch) (v : Watch) → v.object ≡ e → watch_of (unwatched ws e ++ v ∷ []) e ≡ Some v
  alone-of [] v is = rw (same-equal v.object e is) refl
  alone-of (u ∷ ws) v is = by_test (same u.object e) (λ a. rw a (alone-of ws v is)) (λ a. rw a (rw a (alone-of ws v is)))

  own-of : (ws : List Watch) (x : Obj) (w : Watch) → watch_of ws x ≡ Some w → w.object ≡ x
  own-of [] x w h = cc
  own-of (v ∷ ws) x w h = by_test (same v.object x)
      (λ a. let h' : Some v ≡ Some w = rw a at h in let is : v ≡ w = cc in subst (λ (z : Watch). z.object ≡ x) is (same-true v.object x a))
      (λ a. own-of ws x w (rw a at h))

  pub turned-of : (x : Obj) → watch_of (turned_back p.ring x) e ≡ watch_of p.ring e
  turned-of x = elim (same_or_not x e) [ inl is ↦ here is | inr other ↦ there other (watch_of p.ring x) ]
    where
      here : x ≡ e → watch_of (turned_back p.ring x) e ≡ watch_of p.ring e
      here is =
          ap (λ (z : Obj). watch_of (turned_back p.ring z) e) is
          ∙ ap (λ (o : Option Watch). watch_of (behind_all (unwatched p.ring e) o) e) t.watches
          ∙ alone-of p.ring t.watch (own-of p.ring e t.watch t.watches)
          ∙ sym t.watches

      there : x ≢ e → (o : Option Watch) → watch_of (behind_all (unwatched p.ring x) o) e ≡ watch_of p.ring e
      there ne None = unwatched-of p.ring x ne
      there ne (Some v) = before-others (unwatched p.ring x) t.watch (unwatched-of p.ring x ne ∙ t.watches) (v ∷ []) ∙ sym t.watches

  -- how an event watches is changed, but for its descriptor
  pub rewatched-of : (g : Watch → Watch) (x : Obj) → ((w : Watch) → (g w).object ≡ w.object) → ((w : Watch) → (g w).fd ≡ w.fd) → (w : Watch) × (watch_of (rewatched g p.ring x) e ≡ Some w) × (w.fd ≡ fd)
  rewatched-of g x object same_fd = each p.ring t.watch t.watches t.on
    where
      each : (ws : List Watch) (w : Watch) → watch_of ws e ≡ Some w → w.fd ≡ fd → (v : Watch) × (watch_of (rewatched g ws x) e ≡ Some v) × (v.fd ≡ fd)
      each [] w h i = cc
      each (u ∷ us) w h i = by_test (same u.object e)
          (λ a. let h' : Some u ≡ Some w = rw a at h in
          let is : u ≡ w = cc in
          let f : u.fd ≡ fd = ap (λ (z : Watch). z.fd) is ∙ i in
          by_test (same u.object x)
          (λ b. let c : same (g u).object e ≡ true = ap (λ (z : Obj). same z e) (object u) ∙ a in (g u, rw b (rw c refl), same_fd u ∙ f))
          (λ b. (u, rw b (rw a refl), f)))
          (λ a. let h' : watch_of us e ≡ Some w = rw a at h in
          let r = each us w h' i in
          by_test (same u.object x)
          (λ b. let c : same (g u).object e ≡ false = ap (λ (z : Obj). same z e) (object u) ∙ a in (r.0, rw b (rw c r.1), r.2))
          (λ b. (r.0, rw b (rw a r.1), r.2)))
