-- What the moves of the open frees do to the rows.
use Rattle.std.proofs.Common.{◌≡◌, ℕ, nat_eq, List, [], ◌∷◌, map, Option, Some, None, refl, sym, ◌∙◌, ap, subst}
use Rattle.std.specs.Prelude.{unwrap_or}
use Rattle.step_machine.specs.Machine.{Move as Do}
use Rattle.tree_specs.specs.Machine.Profiles.{InLoop}
use Rattle.tree_specs.specs.declared.frame.Frame.{Frame}
use Rattle.tree_specs.specs.declared.frame.Frame.TheVariants as frame
use Rattle.tree_specs.specs.declared.frame.FreeFrame.{FreeFrame}
use Rattle.tree_specs.specs.declared.frame.FreeFrame.TheVariants.{Unlinking, Releasing, Giving, Beginning, Hooked, Judged, Preparing, Draining, Prepared, Dooming, Leaving, Looping, FreeingChild, AfterChild, Ending}
use Rattle.tree_specs.specs.declared.frame.Purpose.{Purpose}
use Rattle.tree_specs.specs.declared.frame.Purpose.TheVariants.{Removal, Emptying}
use Rattle.tree_specs.specs.declared.free_step.FreeReply.{FreeReply}
use Rattle.tree_specs.specs.declared.free_step.FreeReply.TheVariants as replies
use Rattle.tree_specs.specs.declared.free_step.FreeStep.{FreeStep}
use Rattle.tree_specs.specs.declared.free_step.FreeStep.TheVariants.{Ask, Prepare, Drain, Dropped, Left, Moved, Gone, Done}
use Rattle.tree_specs.specs.declared.object.Obj.{Obj}
use Rattle.tree_specs.specs.declared.object.Owner.{Owner}
use Rattle.tree_specs.specs.declared.object.Owner.TheVariants.{Root, Of}
use Rattle.tree_specs.specs.declared.row.Row.{Row}
use Rattle.tree_specs.specs.declared.row.Mark.{Mark}
use Rattle.tree_specs.specs.declared.row.Mark.TheVariants as mark
use Rattle.tree_specs.specs.Words.Objects.{same}
use Rattle.tree_specs.specs.Tree.Targets.{newest_ref}
use Rattle.tree_specs.specs.Tree.Pool.{Pool, row_of, owner_in, is_below, owner_of, target_in, target_at, newest_ref_of, is_inside, first_kid, changed, marked_row, hooked_row}
use Rattle.tree_specs.specs.Calls.Refusals.{is_request, is_queue}
use Rattle.tree_specs.specs.Machine.FreeTable.{FreeMove, free_step, free_resume, begin_step}
use Rattle.tree_specs.specs.Invariants.Sound.{claims, IsLive, Shaped, ValidAt, Sound}
use Rattle.tree_specs.proofs.Tree.Numbered.{by_test, is_below-some}
use Rattle.tree_specs.proofs.Tree.Referring.{newest-refers, newest-of-refers}
use Rattle.tree_specs.proofs.Invariants.Changes.{dying-row, claim-here}
use Rattle.destructors.specs.Frees.{OpenFrees, awaits_run, answered, moved, moves, Silently, Still, On, Steps}
use Rattle.destructors.specs.Works.{AtWork, IsAtWork, GoesOn}
use Rattle.destructors.specs.Changes.{bare, SameRows, ChangedBy}
use Rattle.destructors.proofs.Grounds.{rests}
use Rattle.destructors.proofs.Keeping.{kept, told-kept}
use Rattle.destructors.proofs.Settling.{awaiting-speaks, still}

-- what a move does
abbrev pub MoveChanges : FreeMove → List Row → Type 0
MoveChanges (Do.Done a q) rs = SameRows rs q.rows
MoveChanges (Do.Go f q) rs = SameRows rs q.rows
MoveChanges (Do.Emit t f q) rs = ChangedBy t rs q.rows
MoveChanges (Do.Wait t f q) rs = ChangedBy t rs q.rows
MoveChanges (Do.Call g f q) rs = SameRows rs q.rows

bare-changed : (f : Row → Row) → ((r : Row) → bare (f r) ≡ bare r) → (rs : List Row) (x : Obj) → SameRows rs (changed f rs x)
bare-changed f h [] x = refl
bare-changed f h (r ∷ rs) x = by_test (same r.serial x)
    (λ t. rw t (ap (λ (q : Row). q ∷ map bare rs) (h r)))
    (λ t. rw t (ap (λ (qs : List Row). bare r ∷ qs) (bare-changed f h rs x)))

pub marked-same : (m : Mark) (rs : List Row) (x : Obj) → SameRows rs (changed (marked_row m) rs x)
marked-same m rs x = bare-changed (marked_row m) (λ r. refl) rs x

hooked-same : (h : ℕ) (rs : List Row) (x : Obj) → SameRows rs (changed (hooked_row h) rs x)
hooked-same h rs x = bare-changed (hooked_row h) (λ r. refl) rs x

-- a live object has an owner
live-owner : (next : ℕ) (o : Option Row) (x : Obj) (r : Row) → o ≡ Some r → ValidAt next o x → IsLive r.mark → owner_in o ≡ Some (unwrap_or (owner_in o) Root)
live-owner next None x r e v live = cc
live-owner next (Some q) x r e v live = let is : q ≡ r = cc in each q.mark q.owner (rw is live) v.2
  where
    each : (m : Mark) (w : Option Owner) → IsLive m → Shaped m w x → w ≡ Some (unwrap_or w Root)
    each m (Some w) live s = refl
    each mark.Quiet None live s = absurd s
    each mark.Asked None live s = absurd s
    each mark.Busy None live s = absurd s
    each mark.Doomed None live s = absurd s
    each (mark.Dying former) None live s = absurd live

-- a dying one has none
dying-owner : (next : ℕ) (o : Option Row) (x : Obj) (r : Row) → o ≡ Some r → ValidAt next o x → (former : Owner) → r.mark ≡ mark.Dying former → owner_in o ≡ None
dying-owner next None x r e v former m = cc
dying-owner next (Some q) x r e v former m = let is : q ≡ r = cc in let m' : q.mark ≡ mark.Dying former = ap (λ (z : Row). z.mark) is ∙ m in each q.owner (rw m' at v.2)
  where
    each : (w : Option Owner) → Shaped (mark.Dying former) w x → w ≡ None
    each None s = refl
    each (Some w) s = absurd s

-- ---- each move

module _ (p : Pool) (fs : List Frame) where
  refers : (f : Frame) (x r : Obj) → Sound f fs p → newest_ref p.rows x ≡ Some r → target_at p.rows r ≡ Some x
  refers f x r s e = let w = newest-refers p.rows x r s.forest.distinct e in ap target_in w.1 ∙ w.2

  begins : (x : Obj) (q : Option Row) → MoveChanges (begin_step x q p) p.rows
  begins x None = refl
  begins x (Some r) = each r.mark
    where
      each : (m : Mark) → MoveChanges (begin_step x (Some (record r { mark = m })) p) p.rows
      each mark.Quiet = by_test (is_request r.kind)
          (λ u. rw u (marked-same mark.Asked p.rows x))
          (λ u. by_test (is_queue r.kind)
          (λ v. rw (u, v) (marked-same mark.Asked p.rows x))
          (λ v. rw (u, v) (by_test (nat_eq r.hook 0) (λ t. rw t refl) (λ t. rw t (marked-same mark.Asked p.rows x)))))
      each mark.Busy = marked-same mark.Doomed p.rows x
      each _ = refl

  hands : (x c : Obj) (noted : Option Owner) (purpose : Purpose) (a : FreeReply) → Sound (frame.Free (AfterChild x c noted purpose a)) fs p → MoveChanges (free_step (AfterChild x c noted purpose a) p) p.rows
  hands x c noted purpose replies.Ok s = refl
  hands x c noted purpose replies.Held s = by_test (is_below (owner_of p.rows c) (Of x))
      (λ t. rw t (is_below-some (owner_of p.rows c) (Of x) t, rests (AfterChild x c noted purpose replies.Held) fs p s t, refl)) (λ t. rw t refl)
  hands x c noted purpose replies.Running s = by_test (is_below (owner_of p.rows c) (Of x))
      (λ t. rw t (is_below-some (owner_of p.rows c) (Of x) t, rests (AfterChild x c noted purpose replies.Running) fs p s t, refl)) (λ t. rw t refl)
  hands x c noted purpose (replies.Refused v) s = by_test (is_below (owner_of p.rows c) (Of x))
      (λ t. rw t (is_below-some (owner_of p.rows c) (Of x) t, rests (AfterChild x c noted purpose (replies.Refused v)) fs p s t, refl)) (λ t. rw t refl)

  pub move-changes : (f : FreeFrame) → Sound (frame.Free f) fs p → MoveChanges (free_step f p) p.rows
  move-changes (Unlinking o x) s = each (newest_ref_of p.rows o x) refl
    where
      each : (q : Option Obj) → newest_ref_of p.rows o x ≡ q → MoveChanges (free_step (Unlinking o x) p) p.rows
      each None e = rw e refl
      each (Some r) e = let w = newest-of-refers p.rows o x r s.forest.distinct e in rw e (ap target_in w.1 ∙ w.2, refl)
  move-changes (Releasing x) s = each (newest_ref p.rows x) refl
    where
      each : (q : Option Obj) → newest_ref p.rows x ≡ q → MoveChanges (free_step (Releasing x) p) p.rows
      each None e = rw e refl
      each (Some r) e = by_test (is_inside p.rows (Of r) (Of x)) (λ t. rw (e, t) (refers (frame.Free (Releasing x)) x r s e, refl)) (λ t. rw (e, t) (refers (frame.Free (Releasing x)) x r s e, refl))
  move-changes (Giving x o) s = (live-owner p.next (row_of p.rows x) x s.rests.row s.rests.is (s.valid x) s.rests.live, rests (Giving x o) fs p s, refl)
  move-changes (Beginning x) s = each (newest_ref p.rows x) refl
    where
      each : (q : Option Obj) → newest_ref p.rows x ≡ q → MoveChanges (free_step (Beginning x) p) p.rows
      each None e = rw e (begins x (row_of p.rows x))
      each (Some r) e = by_test (is_inside p.rows (Of r) (Of x)) (λ t. rw (e, t) (refers (frame.Free (Beginning x)) x r s e, refl)) (λ t. rw (e, t) (refers (frame.Free (Beginning x)) x r s e, refl))
  move-changes (Hooked x h) s = refl
  move-changes (Judged x h v) s = by_test (nat_eq v 0) (λ t. rw t (hooked-same 0 p.rows x)) (λ t. rw t (marked-same mark.Quiet p.rows x))
  move-changes (Preparing x) s = refl
  move-changes (Draining x) s = refl
  move-changes (Prepared x) s = marked-same mark.Quiet p.rows x
  move-changes (Dooming x) s = refl
  move-changes (Leaving x h) s = (live-owner p.next (row_of p.rows x) x s.rests.0 s.rests.1 (s.valid x) s.rests.2, refl)
  move-changes (Looping x purpose) s = each (first_kid p.rows (Of x)) refl
    where
      last : (purpose : Purpose) → Sound (frame.Free (Looping x purpose)) fs p → first_kid p.rows (Of x) ≡ None → MoveChanges (free_step (Looping x purpose) p) p.rows
      last (Removal h) s e =
          let row = dying-row (row_of p.rows x) (claims x fs) (claim-here x InLoop (claims x fs) (row_of p.rows x) (s.open_frees x)) in
          rw e (dying-owner p.next (row_of p.rows x) x row.0 row.1 (s.valid x) row.2 row.3, rw row.1 refl, refl)
      last Emptying s e = rw e refl

      child : (c : Obj) → first_kid p.rows (Of x) ≡ Some c → (t : Option Obj) → target_at p.rows c ≡ t → MoveChanges (free_step (Looping x purpose) p) p.rows
      child c e None t = rw (e, t) refl
      child c e (Some target) t = rw (e, t) (t, refl)

      each : (q : Option Obj) → first_kid p.rows (Of x) ≡ q → MoveChanges (free_step (Looping x purpose) p) p.rows
      each None e = last purpose s e
      each (Some c) e = child c e (target_at p.rows c) refl
  move-changes (FreeingChild x c noted purpose) s = absurd s.rests
  move-changes (AfterChild x c noted purpose a) s = hands x c noted purpose a s
  move-changes (Ending a) s = refl

-- ---- a move of the open frees

quiet-rows : (m : FreeMove) (fs : List FreeFrame) (rs : List Row) (s : OpenFrees) → MoveChanges m rs → moved m fs ≡ (None, s) → SameRows rs s.pool.rows
quiet-rows (Do.Done a q) fs rs s c e = over fs e
  where
    over : (fs : List FreeFrame) → answered a q fs ≡ (None, s) → SameRows rs s.pool.rows
    over [] e = let bad : Some (Done a) ≡ None = ap (λ (z : Option FreeStep × OpenFrees). z.0) e in cc
    over (f ∷ fs) e = by_test (awaits_run f)
        (λ t. let e' : (let y : Option FreeStep × OpenFrees = (Some (Done a), record { works = f ∷ fs; pool = q }) in y) ≡ (None, s) = rw t at e in let bad : Some (Done a) ≡ None = ap (λ (z : Option FreeStep × OpenFrees). z.0) e' in cc)
        (λ t.
        let e' : (let y : Option FreeStep × OpenFrees = (None, record { works = free_resume f a ∷ fs; pool = q }) in y) ≡ (None, s) = rw t at e in
        subst (λ (z : OpenFrees). SameRows rs z.pool.rows) (ap (λ (z : Option FreeStep × OpenFrees). z.1) e') c)
quiet-rows (Do.Go f q) fs rs s c e = subst (λ (z : OpenFrees). SameRows rs z.pool.rows) (ap (λ (z : Option FreeStep × OpenFrees). z.1) e) c
quiet-rows (Do.Emit t f q) fs rs s c e = let bad : Some t ≡ None = ap (λ (z : Option FreeStep × OpenFrees). z.0) e in cc
quiet-rows (Do.Wait t f q) fs rs s c e = let bad : Some t ≡ None = ap (λ (z : Option FreeStep × OpenFrees). z.0) e in cc
quiet-rows (Do.Call g h q) fs rs s c e = subst (λ (z : OpenFrees). SameRows rs z.pool.rows) (ap (λ (z : Option FreeStep × OpenFrees). z.1) e) c

told-by : (rs : List Row) (told : Option FreeStep) (mid : OpenFrees) (t : FreeStep) (s : OpenFrees) → ((u : FreeStep) → told ≡ Some u → ChangedBy u rs mid.pool.rows) → (let z : Option FreeStep × OpenFrees = (told, mid) in z) ≡ (Some t, s) → ChangedBy t rs s.pool.rows
told-by rs told mid t s h e = subst (λ (z : OpenFrees). ChangedBy t rs z.pool.rows) (ap (λ (z : Option FreeStep × OpenFrees). z.1) e) (h t (ap (λ (z : Option FreeStep × OpenFrees). z.0) e))

told-rows : (m : FreeMove) (fs : List FreeFrame) (rs : List Row) (t : FreeStep) (s : OpenFrees) → MoveChanges m rs → moved m fs ≡ (Some t, s) → ChangedBy t rs s.pool.rows
told-rows (Do.Done a q) fs rs t s c e = c' fs e
  where
    over : (told : Option FreeStep) → told ≡ Some (Done a) → (mid : OpenFrees) → mid.pool ≡ q → (let z : Option FreeStep × OpenFrees = (told, mid) in z) ≡ (Some t, s) → ChangedBy t rs s.pool.rows
    over told is mid pool e = told-by rs told mid t s (λ u v. let w : Some (Done a) ≡ Some u = sym is ∙ v in let w' : Done a ≡ u = cc in subst (λ (z : FreeStep). ChangedBy z rs mid.pool.rows) w' (rw pool c)) e

    none : (mid : OpenFrees) → (let z : Option FreeStep × OpenFrees = (None, mid) in z) ≡ (Some t, s) → ChangedBy t rs s.pool.rows
    none mid e = let bad : None ≡ Some t = ap (λ (z : Option FreeStep × OpenFrees). z.0) e in cc

    c' : (fs : List FreeFrame) → answered a q fs ≡ (Some t, s) → ChangedBy t rs s.pool.rows
    c' [] e = over (Some (Done a)) refl _ refl e
    c' (f ∷ fs) e = by_test (awaits_run f)
        (λ u. let e' : (let y : Option FreeStep × OpenFrees = (Some (Done a), record { works = f ∷ fs; pool = q }) in y) ≡ (Some t, s) = rw u at e in over (Some (Done a)) refl _ refl e')
        (λ u. let e' : (let y : Option FreeStep × OpenFrees = (None, record { works = free_resume f a ∷ fs; pool = q }) in y) ≡ (Some t, s) = rw u at e in none _ e')
told-rows (Do.Go f q) fs rs t s c e = let bad : None ≡ Some t = ap (λ (z : Option FreeStep × OpenFrees). z.0) e in cc
told-rows (Do.Emit u f q) fs rs t s c e = told-by rs (Some u) _ t s (λ v w. let w' : u ≡ v = cc in subst (λ (z : FreeStep). ChangedBy z rs q.rows) w' c) e
told-rows (Do.Wait u f q) fs rs t s c e = told-by rs (Some u) _ t s (λ v w. let w' : u ≡ v = cc in subst (λ (z : FreeStep). ChangedBy z rs q.rows) w' c) e
told-rows (Do.Call g h q) fs rs t s c e = let bad : None ≡ Some t = ap (λ (z : Option FreeStep × OpenFrees). z.0) e in cc

-- ---- one step after another

pub silent-rows : (s t : OpenFrees) → IsAtWork s → Silently s t → IsAtWork t × SameRows s.pool.rows t.pool.rows
silent-rows s _ w Still = (w, refl)
silent-rows s t w (On u _ earlier last) = let a = silent-rows s u w earlier in each u.works a.0 a.1 last
  where
    each : (works : List FreeFrame) → AtWork works u.pool → SameRows s.pool.rows u.pool.rows → moves works u.pool ≡ (None, t) → IsAtWork t × SameRows s.pool.rows t.pool.rows
    each [] v b e = absurd v
    each (f ∷ fs) v b e = (kept f fs u.pool t v e, quiet-rows (free_step f u.pool) fs u.pool.rows t (move-changes u.pool _ f v.sound) e ∙ b)

then-same : (t : FreeStep) (rs mid new : List Row) → ChangedBy t rs mid → SameRows mid new → ChangedBy t rs new
then-same (Dropped r target) rs mid new c e = (c.0, e ∙ c.1)
then-same (Left x from) rs mid new c e = (c.0, e ∙ c.1)
then-same (Moved x from o) rs mid new c e = (c.0, c.1, e ∙ c.2)
then-same (Gone x h) rs mid new c e = (c.0, c.1, e ∙ c.2)
then-same _ rs mid new c e = e ∙ c

-- what follows a move that told something
settled-rows : (t : FreeStep) (mid new : OpenFrees) → GoesOn t mid → Silently mid new → SameRows mid.pool.rows new.pool.rows
settled-rows (Ask x) mid new g on = ap (λ (z : OpenFrees). map bare z.pool.rows) (sym (still mid new on (awaiting-speaks mid g)))
settled-rows (Prepare x) mid new g on = ap (λ (z : OpenFrees). map bare z.pool.rows) (sym (still mid new on (awaiting-speaks mid g)))
settled-rows (Drain x) mid new g on = ap (λ (z : OpenFrees). map bare z.pool.rows) (sym (still mid new on (awaiting-speaks mid g)))
settled-rows (Done a) mid new g on = ap (λ (z : OpenFrees). map bare z.pool.rows) (sym (still mid new on (awaiting-speaks mid g)))
settled-rows _ mid new g on = (silent-rows mid new g on).1

pub step-changes : (old new : OpenFrees) (t : FreeStep) → IsAtWork old → Steps old t new → ChangedBy t old.pool.rows new.pool.rows
step-changes old new t w s = each old.works w s
  where
    each : (works : List FreeFrame) → AtWork works old.pool → Steps (record { works = works; pool = old.pool }) t new → ChangedBy t old.pool.rows new.pool.rows
    each [] v st = absurd v
    each (f ∷ fs) v st =
        let mid : OpenFrees = (moves (f ∷ fs) old.pool).1 in
        let e : moves (f ∷ fs) old.pool ≡ (Some t, mid) = ap (λ (z : Option FreeStep). let y : Option FreeStep × OpenFrees = (z, mid) in y) st.tells in
        then-same t old.pool.rows mid.pool.rows new.pool.rows (told-rows (free_step f old.pool) fs old.pool.rows t mid (move-changes old.pool _ f v.sound) e)
        (settled-rows t mid new (told-kept f fs old.pool t mid v e) st.moves_on)
