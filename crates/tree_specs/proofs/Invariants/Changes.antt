-- What a change of the rows, or of the works, keeps sound.
use Rattle.std.proofs.Common.{◌≡◌, ◌≢◌, ℕ, suc, zero, ◌+◌, ◌<◌, List, [], ◌∷◌, ◌++◌, Option, Some, None, true, false, nat_eq, refl, sym, ◌∙◌, ap, subst, ◌⊎◌, inl, inr, arith}
use Rattle.std.proofs.lemmas.Bool.{eqb-true}
use Rattle.tree_specs.specs.Machine.Profiles.{Phase, InRun, InHandler, InLoop}
use Rattle.tree_specs.specs.declared.object.Obj.{Obj}
use Rattle.tree_specs.specs.declared.object.Owner.{Owner}
use Rattle.tree_specs.specs.declared.object.Owner.TheVariants.{Root, Of}
use Rattle.tree_specs.specs.declared.row.Row.{Row}
use Rattle.tree_specs.specs.declared.row.Mark.{Mark}
use Rattle.tree_specs.specs.declared.row.Mark.TheVariants.{Quiet, Asked, Dying}
use Rattle.tree_specs.specs.declared.frame.Frame.{Frame}
use Rattle.tree_specs.specs.declared.kind.Kind.{Kind}
use Rattle.tree_specs.specs.Words.Objects.{same}
use Rattle.tree_specs.specs.Tree.Pool.{Pool, row_of, target_at, is_object_row, is_owner, is_below, owner_of, without, changed, add, take_number, remove, place, named_row, sized_row, limited_row, marked_row, hooked_row}
use Rattle.tree_specs.specs.Tree.Heirs.{heir}
use Rattle.tree_specs.specs.Tree.Targets.{target_of, newest_ref, is_context}
use Rattle.tree_specs.specs.Invariants.Sound.{is_at_turn_mark, IsTurning, TurnedAt, IsReferable, IsQuietRow, Refers, Owned, Shaped, ValidAt, phase_of, phases, claim_if, claim, claims, AllWait, IsLive, Rests, Sound, MayBePlaced}
use Rattle.tree_specs.proofs.Tree.Numbered.{by_test, same-true, same-equal, same-false, same_or_not, is_below-some}
use Rattle.tree_specs.proofs.Tree.Rows.{row_of-changed-other, row_of-changed-same, row_of-without-other, row_of-without-same, row_of-placed-other, row_of-placed-same}
use Rattle.tree_specs.proofs.Tree.Rooted.{KeepsPlace, forest-new, forest-placed, forest-changed, forest-without}
use Rattle.tree_specs.proofs.Tree.Heirs.{heir-may_take}
use Rattle.tree_specs.proofs.Tree.Referring.{none-refers, unreferred, refers-at, refers-nothing, referable-refers, reference-childless}
use Rattle.tree_specs.specs.Calls.Refusals.{is_referable}
use Rattle.tree_specs.specs.Tree.Forest.{Distinct}

-- ---- what the works claim of a row

-- a row that a free in its loop claims is dying, and claimed once
pub dying-row : (o : Option Row) (l : List Phase) → InLoop ∷ l ≡ phases o → (r : Row) × (o ≡ Some r) × (former : Owner) × (r.mark ≡ Dying former) × (l ≡ [])
dying-row None l e = cc
dying-row (Some r) l e = marks r.mark refl e
  where
    marks : (m : Mark) → r.mark ≡ m → InLoop ∷ l ≡ phase_of r.kind r.mark → (s : Row) × (Some r ≡ Some s) × (former : Owner) × (s.mark ≡ Dying former) × (l ≡ [])
    marks Quiet m e = let e' : InLoop ∷ l ≡ [] = rw m at e in cc
    marks (Dying former) m e = let e' : InLoop ∷ l ≡ InLoop ∷ [] = rw m at e in (r, refl, former, m, cc)
    marks Asked m e = let e' : InLoop ∷ l ≡ InRun ∷ [] = rw m at e in cc
    marks _ m e = by_test (is_context r.kind) (λ t. let e' : InLoop ∷ l ≡ [] = rw (m, t) at e in cc) (λ t. let e' : InLoop ∷ l ≡ InHandler ∷ [] = rw (m, t) at e in cc)

-- a row of which a free says that its destructor runs is live and asked, and claimed once
pub running-row : (o : Option Row) (l : List Phase) → InRun ∷ l ≡ phases o → (r : Row) × (o ≡ Some r) × IsLive r.mark × (l ≡ []) × (r.mark ≡ Asked)
running-row None l e = cc
running-row (Some r) l e = marks r.mark refl e
  where
    marks : (m : Mark) → r.mark ≡ m → InRun ∷ l ≡ phase_of r.kind r.mark → (s : Row) × (Some r ≡ Some s) × IsLive s.mark × (l ≡ []) × (s.mark ≡ Asked)
    marks Quiet m e = let e' : InRun ∷ l ≡ [] = rw m at e in cc
    marks (Dying former) m e = let e' : InRun ∷ l ≡ InLoop ∷ [] = rw m at e in cc
    marks Asked m e = let e' : InRun ∷ l ≡ InRun ∷ [] = rw m at e in (r, refl, rw m tt, cc, m)
    marks _ m e = by_test (is_context r.kind) (λ t. let e' : InRun ∷ l ≡ [] = rw (m, t) at e in cc) (λ t. let e' : InRun ∷ l ≡ InHandler ∷ [] = rw (m, t) at e in cc)

-- and one of which a turn says that its handler runs is live, and claimed once
pub handling-row : (o : Option Row) (l : List Phase) → InHandler ∷ l ≡ phases o → (r : Row) × (o ≡ Some r) × IsLive r.mark × (is_context r.kind ≡ false) × (l ≡ [])
handling-row None l e = cc
handling-row (Some r) l e = marks r.mark refl e
  where
    marks : (m : Mark) → r.mark ≡ m → InHandler ∷ l ≡ phase_of r.kind r.mark → (s : Row) × (Some r ≡ Some s) × IsLive s.mark × (is_context s.kind ≡ false) × (l ≡ [])
    marks Quiet m e = let e' : InHandler ∷ l ≡ [] = rw m at e in cc
    marks Asked m e = let e' : InHandler ∷ l ≡ InRun ∷ [] = rw m at e in cc
    marks (Dying former) m e = let e' : InHandler ∷ l ≡ InLoop ∷ [] = rw m at e in cc
    marks _ m e = by_test (is_context r.kind) (λ t. let e' : InHandler ∷ l ≡ [] = rw (m, t) at e in cc) (λ t. let e' : InHandler ∷ l ≡ InHandler ∷ [] = rw (m, t) at e in (r, refl, rw m tt, t, cc))

-- what a claim on x says
pub claim-here : (x : Obj) (a : Phase) (l : List Phase) (o : Option Row) → claim_if (same x x) a ++ l ≡ phases o → a ∷ l ≡ phases o
claim-here x a l o h = let self : same x x ≡ true = same-equal x x refl in rw self at h

pub positive : (h : ℕ) → nat_eq h 0 ≡ false → 0 < h
positive zero t = cc
positive (suc h) t = omega arith

pub not-zero : (h : ℕ) → 0 < h → nat_eq h 0 ≡ false
not-zero h l = by_test (nat_eq h 0) (λ t. let e : h ≡ 0 = eqb-true h 0 t in absurd (omega arith)) (λ t. t)

-- ---- other works over the same rows

-- the same rows under other works that claim as much
pub stands : (f f' : Frame) (fs fs' : List Frame) (p : Pool) → ((x : Obj) → claim x f' ++ claims x fs' ≡ claim x f ++ claims x fs) → AllWait fs' → Rests f' fs' p → Sound f fs p → Sound f' fs' p
stands f f' fs fs' p e w h s = record { turned = s.turned; started = s.started; valid = s.valid; forest = s.forest; refers = s.refers; waiting = w; rests = h; open_frees = λ x. e x ∙ s.open_frees x }

-- the same under another innermost work
pub goes_on : (f f' : Frame) (fs : List Frame) (p : Pool) → ((x : Obj) → claim x f' ≡ claim x f) → Rests f' fs p → Sound f fs p → Sound f' fs p
goes_on f f' fs p e h s = stands f f' fs fs p (λ x. ap (λ (l : List Phase). l ++ claims x fs) (e x)) s.waiting h s

-- the same rows, of which others wait for their turn
pub waiting-sound : (f f' : Frame) (fs : List Frame) (p q : Pool) → Sound f fs p → q.rows ≡ p.rows → q.next ≡ p.next → q.turning ≡ p.turning → ((x : Obj) → claim x f' ≡ claim x f) → Rests f' fs q → Sound f' fs q
waiting-sound f f' fs p q s rows next turning e h = record {
  turned = rw (rows, turning) s.turned;
  started = rw next s.started;
  valid = rw (rows, next) s.valid;
  forest = rw rows s.forest;
  refers = rw rows s.refers;
  open_frees = λ x. rw rows (ap (λ (l : List Phase). l ++ claims x fs) (e x) ∙ s.open_frees x);
  waiting = s.waiting;
  rests = h;
}

valid-higher : (next : ℕ) (q : Option Row) (y : Obj) → ValidAt next q y → ValidAt (next + 1) q y
valid-higher next None y v = tt
valid-higher next (Some r) y v = let l : y.0 < next = v.1 in (v.0, omega arith, v.2)

-- the next number is nobody's
pub nobody : (p : Pool) → ((x : Obj) → ValidAt p.next (row_of p.rows x) x) → row_of p.rows (record { 0 = p.next }) ≡ None
nobody p valid = each (row_of p.rows (record { 0 = p.next })) (valid (record { 0 = p.next }))
  where
    each : (q : Option Row) → ValidAt p.next q (record { 0 = p.next }) → q ≡ None
    each None v = refl
    each (Some r) v = let l : p.next < p.next = v.1 in absurd (omega arith)

-- a number is taken
pub numbered-sound : (f f' : Frame) (fs : List Frame) (p : Pool) → Sound f fs p → ((x : Obj) → claim x f' ≡ claim x f) → Rests f' fs (take_number p) → Sound f' fs (take_number p)
numbered-sound f f' fs p s e h = record {
  started = omega arith;
  valid = λ y. valid-higher p.next (row_of p.rows y) y (s.valid y);
  forest = s.forest;
  refers = s.refers;
  open_frees = λ x. ap (λ (l : List Phase). l ++ claims x fs) (e x) ∙ s.open_frees x;
  turned = s.turned;
  waiting = s.waiting;
  rests = h;
}

-- ---- a row that is changed in its place

-- a fact on each object, where one row was changed
pub valid-at : (next : ℕ) (rs rs' : List Row) (x : Obj) → ((y : Obj) → ValidAt next (row_of rs y) y)
    → ((y : Obj) → x ≢ y → row_of rs' y ≡ row_of rs y) → ValidAt next (row_of rs' x) x → (y : Obj) → ValidAt next (row_of rs' y) y
valid-at next rs rs' x v other here y =
    elim (same_or_not x y) [
      | inl e ↦ subst (λ (z : Obj). ValidAt next (row_of rs' z) z) e here
      | inr ne ↦ rw (other y ne) (v y)
    ]

-- the context whose turn is under way, where one row was changed
pub turned-at : (o : Option Obj) (rs rs' : List Row) (x : Obj) → TurnedAt o rs → ((y : Obj) → x ≢ y → row_of rs' y ≡ row_of rs y) → (o ≡ Some x → IsTurning (row_of rs' x)) → TurnedAt o rs'
turned-at None rs rs' x t other here = tt
turned-at (Some c) rs rs' x t other here = elim (same_or_not x c) [
  | inl e ↦ subst (λ (z : Obj). IsTurning (row_of rs' z)) e (here (ap Some (sym e)))
  | inr ne ↦ rw (other c ne) t
]

-- its row
pub turning-row : (o : Option Obj) (rs : List Row) (x : Obj) (q : Option Row) → TurnedAt o rs → o ≡ Some x → row_of rs x ≡ q → IsTurning q
turning-row o rs x q t e is = subst IsTurning is (let t' : TurnedAt (Some x) rs = subst (λ (z : Option Obj). TurnedAt z rs) e t in t')

-- a row with which no turn is under way
pub no-turn-row : {A : Type 0} (o : Option Obj) (rs : List Row) (x : Obj) (r : Row) → TurnedAt o rs → row_of rs x ≡ Some r → is_at_turn_mark r.mark ≡ false → o ≡ Some x → A
no-turn-row o rs x r t is calm e = let k = turning-row o rs x (Some r) t e is in let bad : true ≡ false = sym k.1 ∙ calm in cc

pub frees-at : (f f' : Frame) (fs fs' : List Frame) (rs rs' : List Row) (x : Obj) → ((y : Obj) → claim y f ++ claims y fs ≡ phases (row_of rs y))
    → ((y : Obj) → x ≢ y → row_of rs' y ≡ row_of rs y) → ((y : Obj) → x ≢ y → claim y f' ++ claims y fs' ≡ claim y f ++ claims y fs)
    → claim x f' ++ claims x fs' ≡ phases (row_of rs' x) → (y : Obj) → claim y f' ++ claims y fs' ≡ phases (row_of rs' y)
frees-at f f' fs fs' rs rs' x o other others here y =
    elim (same_or_not x y) [
      | inl e ↦ subst (λ (z : Obj). claim z f' ++ claims z fs' ≡ phases (row_of rs' z)) e here
      | inr ne ↦ others y ne ∙ o y ∙ ap phases (sym (other y ne))
    ]

pub changed-sound : (g : Row → Row) (f f' : Frame) (fs fs' : List Frame) (p : Pool) (x : Obj) (r : Row) → Sound f fs p → KeepsPlace g → row_of p.rows x ≡ Some r → Shaped (g r).mark (g r).owner x
    → target_of r.kind ≡ None → (r.mark ≡ Quiet → (g r).mark ≡ Quiet) ⊎ (newest_ref p.rows x ≡ None) → ((y : Obj) → x ≢ y → claim y f' ++ claims y fs' ≡ claim y f ++ claims y fs) → claim x f' ++ claims x fs' ≡ phase_of (g r).kind (g r).mark
    → (p.turning ≡ Some x → is_at_turn_mark (g r).mark ≡ true) → AllWait fs' → Rests f' fs' (record p { rows = changed g p.rows x }) → Sound f' fs' (record p { rows = changed g p.rows x })
changed-sound g f f' fs fs' p x r s k e shaped object calm others here turning w h =
    let new : row_of (changed g p.rows x) x ≡ Some (g r) = row_of-changed-same g p.rows x r k.serial e in
    let other : (y : Obj) → x ≢ y → row_of (changed g p.rows x) y ≡ row_of p.rows y = (λ y ne. row_of-changed-other g p.rows x y k.serial ne) in
    let v : ValidAt p.next (Some r) x = rw e at (s.valid x) in
    record {
      started = s.started;
      valid = valid-at p.next p.rows (changed g p.rows x) x s.valid other (rw new (v.0, v.1, shaped));
      forest = forest-changed g p.rows x k s.forest;
      refers = refers-at p.rows (changed g p.rows x) x other
          (λ t q. let q' : target_of (g r).kind ≡ Some t = rw new at q in let none : target_of (g r).kind ≡ None = ap target_of (k.kind r) ∙ object in let bad : None ≡ Some t = sym none ∙ q' in cc)
          (λ y q. elim calm [
            | inl keeps ↦ let h : IsReferable (Some r) = rw e at (s.refers.target y x q) in rw new (ap is_referable (k.kind r) ∙ h.0, keeps h.1)
            | inr none ↦ absurd (none-refers p.rows x y none q)
          ]) s.refers;
      open_frees = frees-at f f' fs fs' p.rows (changed g p.rows x) x s.open_frees other others (rw new here);
      turned = turned-at p.turning p.rows (changed g p.rows x) x s.turned other (λ q. let t = turning-row p.turning p.rows x (Some r) s.turned q e in rw new (ap is_context (k.kind r) ∙ t.0, turning q));
      waiting = w;
      rests = h;
    }

pub shape-of : (p : Pool) (x : Obj) (r : Row) → ((y : Obj) → ValidAt p.next (row_of p.rows y) y) → row_of p.rows x ≡ Some r → Shaped r.mark r.owner x
shape-of p x r valid e = let v : ValidAt p.next (Some r) x = rw e at (valid x) in v.2

-- a row that isn't dying has an owner, another object
pub live-owned : (m : Mark) (o : Option Owner) (x : Obj) → IsLive m → Shaped m o x → Owned o x
live-owned (Dying former) o x l s = absurd l
live-owned _ o x l s = s

owned-live : (m : Mark) (o : Option Owner) (x : Obj) → IsLive m → Owned o x → Shaped m o x
owned-live (Dying former) o x l s = absurd l
owned-live _ o x l s = s

pub marks-place : (m : Mark) → KeepsPlace (marked_row m)
marks-place m = record { serial = λ r. refl; kind = λ r. refl; owner = λ r. refl }

pub hooks-place : (h : ℕ) → KeepsPlace (hooked_row h)
hooks-place h = record { serial = λ r. refl; kind = λ r. refl; owner = λ r. refl }

pub names-place : (name : List ℕ) → KeepsPlace (named_row name)
names-place name = record { serial = λ r. refl; kind = λ r. refl; owner = λ r. refl }

pub sizes-place : (size : ℕ) → KeepsPlace (sized_row size)
sizes-place size = record { serial = λ r. refl; kind = λ r. refl; owner = λ r. refl }

pub limits-place : (limit : ℕ) → KeepsPlace (limited_row limit)
limits-place limit = record { serial = λ r. refl; kind = λ r. refl; owner = λ r. refl }

-- a change that says nothing of what is going on
pub unmarked-sound : (g : Row → Row) (f f' : Frame) (fs : List Frame) (p : Pool) (x : Obj) (r : Row) → Sound f fs p → KeepsPlace g → ((r : Row) → (g r).mark ≡ r.mark) → row_of p.rows x ≡ Some r
    → target_of r.kind ≡ None → ((y : Obj) → claim y f' ≡ claim y f) → Rests f' fs (record p { rows = changed g p.rows x }) → Sound f' fs (record p { rows = changed g p.rows x })
unmarked-sound g f f' fs p x r s k m e object claim-same h =
    changed-sound g f f' fs fs p x r s k e (rw (m r, k.owner r) (shape-of p x r s.valid e)) object (inl (λ q. m r ∙ q)) (λ y ne. ap (λ (l : List Phase). l ++ claims y fs) (claim-same y))
    (ap (λ (l : List Phase). l ++ claims x fs) (claim-same x) ∙ s.open_frees x ∙ ap phases e ∙ (let a = m r in let b = k.kind r in rw (a, b) refl))
    (λ q. let t = turning-row p.turning p.rows x (Some r) s.turned q e in ap is_at_turn_mark (m r) ∙ t.1) s.waiting h

-- ---- an object that is put below an owner

-- an owner stands only on a row that is live
pub owned-row : (p : Pool) (c : Obj) (o : Owner) → ((y : Obj) → ValidAt p.next (row_of p.rows y) y) → owner_of p.rows c ≡ Some o → (r : Row) × (row_of p.rows c ≡ Some r) × IsLive r.mark
owned-row p c o valid e = each (row_of p.rows c) refl
  where
    live : (m : Mark) (w : Option Owner) → w ≡ Some o → Shaped m w c → IsLive m
    live (Dying former) None e s = cc
    live (Dying former) (Some w) e s = s
    live _ w e s = tt

    each : (q : Option Row) → row_of p.rows c ≡ q → (r : Row) × (row_of p.rows c ≡ Some r) × IsLive r.mark
    each None h = let bad : None ≡ Some o = rw h at e in cc
    each (Some r) h =
        let w : r.owner ≡ Some o = rw h at e in
        let v : ValidAt p.next (Some r) c = rw h at (valid c) in
        (r, h, live r.mark r.owner w v.2)

-- an object that is put below another owner
pub placed-sound : (f f' : Frame) (o : Owner) (x : Obj) (fs : List Frame) (p : Pool) → Sound f fs p → MayBePlaced p o x → ((y : Obj) → claim y f' ≡ claim y f) → Rests f' fs (place p o x)
    → Sound f' fs (place p o x)
placed-sound f f' o x fs p s may claim-same h =
    let r : Row = may.row in
    let here : row_of (place p o x).rows x ≡ Some (record r { owner = Some o }) = row_of-placed-same p o x r may.is in
    let other : (y : Obj) → x ≢ y → row_of (place p o x).rows y ≡ row_of p.rows y = (λ y ne. row_of-placed-other p o x y r may.is ne) in
    let v : ValidAt p.next (Some r) x = rw may.is at (s.valid x) in
    record {
      started = s.started;
      valid = valid-at p.next p.rows (place p o x).rows x s.valid other (rw here (v.0, v.1, owned-live r.mark (Some o) x may.live may.apart));
      forest = forest-placed p o x r s.forest may.is may.there may.outside;
      refers = refers-at p.rows (place p o x).rows x other
          (λ t q. let q' : target_at p.rows x ≡ Some t = rw may.is (rw here at q) in (
            elim (same_or_not x t) [
              | inl same_one ↦ subst (λ (z : Obj). IsReferable (row_of (place p o x).rows z)) same_one (rw here (still (s.refers.target x x (q' ∙ ap Some (sym same_one)))))
              | inr ne ↦ rw (other t ne) (s.refers.target x t q')
            ],
            rw here (let c : IsQuietRow (Some r) = rw may.is at (s.refers.quiet x t q') in c),
          ))
          (λ y q. rw here (still (s.refers.target y x q))) s.refers;
      open_frees = frees-at f f' fs fs p.rows (place p o x).rows x s.open_frees other (λ y ne. ap (λ (l : List Phase). l ++ claims y fs) (claim-same y))
          (ap (λ (l : List Phase). l ++ claims x fs) (claim-same x) ∙ s.open_frees x ∙ ap phases may.is ∙ sym (ap phases here));
      turned = turned-at p.turning p.rows (place p o x).rows x s.turned other (λ q. let t = turning-row p.turning p.rows x (Some r) s.turned q may.is in rw here t);
      waiting = s.waiting;
      rests = h;
    }
  where
    still : IsReferable (row_of p.rows x) → IsReferable (Some may.row)
    still h = rw may.is at h

-- a child may be put below its heir
pub heir-placed : (x c : Obj) (noted : Option Owner) (f : Frame) (fs : List Frame) (p : Pool) → Sound f fs p → is_below (owner_of p.rows c) (Of x) ≡ true → MayBePlaced p (heir p.rows x c noted) c
heir-placed x c noted f fs p s below =
    let row = owned-row p c (Of x) s.valid (is_below-some (owner_of p.rows c) (Of x) below) in
    let may = heir-may_take p.rows x c noted in
    record { row = row.0; is = row.1; live = row.2; apart = may.apart; there = may.there; outside = may.outside }

-- ---- a new row

-- a new row is sound below an owner; where it is a reference, its target may be referred to
pub new-sound : (f f' : Frame) (kind : Kind) (o : Owner) (size : ℕ) (name : List ℕ) (fs : List Frame) (p : Pool) → Sound f fs p → is_owner p.rows o ≡ true
    → ((t : Obj) → target_of kind ≡ Some t → IsReferable (row_of p.rows t)) → ((x : Obj) → claim x f' ≡ claim x f) → Rests f' fs (add p kind o size name) → Sound f' fs (add p kind o size name)
new-sound f f' kind o size name fs p s e may claim-same h =
    let n : Obj = record { 0 = p.next } in
    let none : row_of p.rows n ≡ None = nobody p s.valid in
    let ne : o ≢ Of n = other o e in
    let self : same n n ≡ true = same-equal n n refl in
    record {
      started = omega arith;
      forest = forest-new p.rows n kind o size name s.forest none e;
      refers = refers-at p.rows (add p kind o size name).rows n (λ y ne'. let u : same n y ≡ false = same-false n y ne' in rw u refl)
          (λ t q. let q' : target_of kind ≡ Some t = rw self at q in (
            elim (same_or_not n t) [
              | inl is ↦ absurd (let r : IsReferable None = rw none at (subst (λ (z : Obj). IsReferable (row_of p.rows z)) (sym is) (may t q')) in r)
              | inr ne' ↦ let u : same n t ≡ false = same-false n t ne' in rw u (may t q')
            ],
            rw self refl,
          ))
          (λ y q. absurd (let r : IsReferable None = rw none at (s.refers.target y n q) in r)) s.refers;
      valid = λ y. by_test (same n y)
          (λ z. let q : n ≡ y = same-true n y z in rw z (subst (λ (v : Obj). (0 < v.0) × (v.0 < p.next + 1) × (o ≢ Of v)) q (s.started, omega arith, ne)))
          (λ z. rw z (valid-higher p.next (row_of p.rows y) y (s.valid y)));
      open_frees = λ y. ap (λ (l : List Phase). l ++ claims y fs) (claim-same y) ∙ by_test (same n y)
          (λ z. let q : n ≡ y = same-true n y z in rw z (s.open_frees y ∙ ap phases (ap (row_of p.rows) (sym q) ∙ none)))
          (λ z. rw z (s.open_frees y));
      turned = turned-at p.turning p.rows (add p kind o size name).rows n s.turned (λ y ne'. let u : same n y ≡ false = same-false n y ne' in rw u refl) (λ q. absurd (turning-row p.turning p.rows n None s.turned q none));
      waiting = s.waiting;
      rests = h;
    }
  where
    below : (x : Obj) (q : Option Row) → is_object_row q ≡ true → ValidAt p.next q x → Of x ≢ Of (record { 0 = p.next })
    below x None b v = cc
    below x (Some r) b v = λ d. let l : x.0 < p.next = v.1 in let d' : x ≡ record { 0 = p.next } = cc in let d'' : x.0 ≡ p.next = ap (λ (z : Obj). z.0) d' in absurd (omega arith)

    other : (w : Owner) → is_owner p.rows w ≡ true → w ≢ Of (record { 0 = p.next })
    other Root b = λ d. cc
    other (Of x) b = below x (row_of p.rows x) b (s.valid x)

-- ---- references

quiet-phases : (o : Option Row) → IsQuietRow o → phases o ≡ []
quiet-phases None q = refl
quiet-phases (Some r) q = ap (phase_of r.kind) q

-- a row of which a work says that something goes on is no reference, and no reference is to it
pub run-refers : {a : Phase} (rs : List Row) (x : Obj) (l : List Phase) → Refers rs → a ∷ l ≡ phases (row_of rs x) → target_at rs x ≡ None
run-refers {a = a} rs x l refers e = each (target_at rs x) refl
  where
    each : (o : Option Obj) → target_at rs x ≡ o → target_at rs x ≡ None
    each None t = t
    each (Some y) t = let bad : a ∷ l ≡ [] = e ∙ quiet-phases (row_of rs x) (refers.quiet x y t) in cc

pub run-unreferred : {a : Phase} (rs : List Row) (x : Obj) (l : List Phase) → Distinct rs → Refers rs → a ∷ l ≡ phases (row_of rs x) → newest_ref rs x ≡ None
run-unreferred {a = a} rs x l d refers e = unreferred rs x d (not-so (row_of rs x) e) refers
  where
    not-so : (o : Option Row) → a ∷ l ≡ phases o → IsReferable o → ⊥
    not-so None e h = h
    not-so (Some r) e h = let bad : a ∷ l ≡ [] = e ∙ ap (phase_of r.kind) h.1 in cc

-- no turn is under way of what is quiet
quiet-turning : (o : Option Row) → IsQuietRow o → IsTurning o → ⊥
quiet-turning None q t = t
quiet-turning (Some r) q t = let bad : false ≡ true = rw q at t.1 in cc

-- a reference is dropped
pub dropped-sound : (f f' : Frame) (fs : List Frame) (p : Pool) (r t : Obj) → Sound f fs p → target_at p.rows r ≡ Some t → ((y : Obj) → claim y f' ≡ claim y f) → Rests f' fs (remove p r) → Sound f' fs (remove p r)
dropped-sound f f' fs p r t s is claim-same h =
    let gone : row_of (without p.rows r) r ≡ None = row_of-without-same p.rows r s.forest.distinct in
    let other : (y : Obj) → r ≢ y → row_of (without p.rows r) y ≡ row_of p.rows y = (λ y ne. row_of-without-other p.rows r y ne) in
    let calm : phases (row_of p.rows r) ≡ [] = quiet-phases (row_of p.rows r) (s.refers.quiet r t is) in
    record {
      started = s.started;
      valid = valid-at p.next p.rows (without p.rows r) r s.valid other (rw gone tt);
      forest = forest-without p.rows r s.forest (reference-childless p.rows r t s.forest is);
      refers = refers-at p.rows (without p.rows r) r other (λ u q. let bad : None ≡ Some u = rw gone at q in cc)
          (λ y q. absurd (refers-nothing p.rows r t (referable-refers (row_of p.rows r) (s.refers.target y r q)) is)) s.refers;
      open_frees = frees-at f f' fs fs p.rows (without p.rows r) r s.open_frees other (λ y ne. ap (λ (l : List Phase). l ++ claims y fs) (claim-same y))
          (ap (λ (l : List Phase). l ++ claims r fs) (claim-same r) ∙ s.open_frees r ∙ calm ∙ sym (ap phases gone));
      turned = turned-at p.turning p.rows (without p.rows r) r s.turned other (λ q. absurd (quiet-turning (row_of p.rows r) (s.refers.quiet r t is) (turning-row p.turning p.rows r (row_of p.rows r) s.turned q refl)));
      waiting = s.waiting;
      rests = h;
    }
