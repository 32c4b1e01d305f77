-- What the giving up of an object keeps of what holds at every moment.
use Rattle.std.proofs.Common.{◌≡◌, ◌≢◌, ℕ, List, [], ◌∷◌, Option, Some, None, true, false, refl, sym, ◌∙◌, ap, subst}
use Rattle.std.specs.Prelude.{unwrap_or, ◌||◌}
use Rattle.tree_specs.specs.declared.object.Obj.{Obj}
use Rattle.tree_specs.specs.declared.object.Owner.{Owner}
use Rattle.tree_specs.specs.declared.object.Owner.TheVariants.{Root, Of}
use Rattle.tree_specs.specs.declared.row.Row.{Row}
use Rattle.tree_specs.specs.declared.row.Mark.{Mark}
use Rattle.tree_specs.specs.declared.row.Mark.TheVariants.{Quiet}
use Rattle.tree_specs.specs.declared.frame.Frame.{Frame}
use Rattle.tree_specs.specs.declared.frame.Frame.TheVariants as frame
use Rattle.tree_specs.specs.declared.frame.FreeFrame.TheVariants.{Unlinking, Releasing, Giving, Beginning, Ending}
use Rattle.tree_specs.specs.declared.free_step.FreeReply.TheVariants.{Ok}
use Rattle.tree_specs.specs.Words.Objects.{same}
use Rattle.tree_specs.specs.Tree.Pool.{Pool, row_of, target_at, newest_ref_of, owner_in, is_owner, owner_of, is_inside, remove}
use Rattle.tree_specs.specs.Machine.FreeTable.{unlink_step, release_step}
use Rattle.tree_specs.specs.Machine.Table.{step, lifted}
use Rattle.tree_specs.specs.Invariants.Sound.{Owned, Shaped, ValidAt, AllWait, IsLive, IsReferable, Tries, Refers, IsQuietRow, IsCalled, IsGivenUp, MayBePlaced, Sound, footing}
use Rattle.tree_specs.proofs.Tree.Numbered.{by_test, same-false}
use Rattle.tree_specs.proofs.Tree.Rows.{row_of-without-other}
use Rattle.tree_specs.proofs.Tree.Rooted.{is_there-owner}
use Rattle.tree_specs.proofs.Tree.Referring.{newest-refers, newest-of-refers, outside-without, owner-without}
use Rattle.tree_specs.proofs.Tree.Ancestry.{inside-self, inside-owner}
use Rattle.tree_specs.specs.Tree.Targets.{newest_ref}
use Rattle.tree_specs.proofs.Invariants.Waiters.{ForParting, Waiter, ForFree, ForClear, ForRelease, waiter}
use Rattle.tree_specs.proofs.Invariants.Changes.{dropped-sound, goes_on}
use Rattle.tree_specs.proofs.Invariants.KeptFrees.{KeptBy, apart}

-- ---- an owner gives an object up

-- what is referred to is live
pub referred-live : (p : Pool) (x r : Obj) (row : Row) → Refers p.rows → target_at p.rows r ≡ Some x → row_of p.rows x ≡ Some row → IsLive row.mark
referred-live p x r row refers is e = let h : IsReferable (Some row) = rw e at (refers.target r x is) in rw h.1 tt

-- the same object is given up after a reference to it is gone
given_up-dropped : (x r : Obj) (fs : List Frame) (p : Pool) → IsGivenUp x (footing fs) p → r ≢ x → IsGivenUp x (footing fs) (remove p r)
given_up-dropped x r fs p h ne = (h.0, h.1, row_of-without-other p.rows r x ne ∙ h.2, h.3, h.4)

pub given_up-object : (x : Obj) (fs : List Frame) (p : Pool) → IsGivenUp x (footing fs) p → target_at p.rows x ≡ None
given_up-object x fs p h = rw h.2 h.4

pub unlinking : (o : Owner) (x : Obj) (fs : List Frame) (p : Pool) (k : ℕ) → Sound (frame.Free (Unlinking o x)) fs p → KeptBy (step (frame.Free (Unlinking o x)) p) fs k
unlinking o x fs p k s = each (newest_ref_of p.rows o x) refl
  where
    each : (n : Option Obj) → newest_ref_of p.rows o x ≡ n → KeptBy (lifted p.ring (unlink_step x (newest_ref_of p.rows o x) p)) fs k
    each None e = rw e (goes_on (frame.Free (Unlinking o x)) (frame.Free (Releasing x)) fs p (λ y. refl) s.rests s)
    each (Some r) e =
        let w = newest-of-refers p.rows o x r s.forest.distinct e in
        let is : target_at p.rows r ≡ Some x = rw w.1 w.2 in
        rw e (dropped-sound (frame.Free (Unlinking o x)) (frame.Free (Ending Ok)) fs p r x s is (λ y. refl) (tt, tt))

-- the owner of a reference from outside may take the object
giver : (f : Frame) (fs : List Frame) (p : Pool) (x r : Obj) → Sound f fs p → IsGivenUp x (footing fs) p → target_at p.rows r ≡ Some x → is_inside p.rows (Of r) (Of x) ≡ false
    → MayBePlaced (remove p r) (unwrap_or (owner_of p.rows r) Root) x
giver f fs p x r s h is out = by-row (row_of p.rows r) refl (s.refers.quiet r x is) (s.valid r)
  where
    ne : r ≢ x
    ne = apart p x r x (given_up-object x fs p h) is

    by-owner : (w : Option Owner) → owner_of p.rows r ≡ w → Owned w r → MayBePlaced (remove p r) (unwrap_or w Root) x
    by-owner None e o = absurd o
    by-owner (Some w) e o =
        let i : is_inside p.rows (Of r) (Of x) ≡ (same r x || is_inside p.rows w (Of x)) = inside-owner p.rows r w (Of x) e in
        let other : same r x ≡ false = same-false r x ne in
        let i' : is_inside p.rows (Of r) (Of x) ≡ is_inside p.rows w (Of x) = rw other at i in
        let above : is_inside p.rows w (Of x) ≡ false = sym i' ∙ out in
        let there : is_owner p.rows w ≡ true = rw e at (is_there-owner p.rows p.rows r s.forest.owned) in
        record {
          row = h.1;
          is = row_of-without-other p.rows r x ne ∙ h.2;
          live = h.3;
          apart = λ q. (let u : is_inside p.rows (Of x) (Of x) ≡ false = subst (λ (z : Owner). is_inside p.rows z (Of x) ≡ false) q above in let bad : true ≡ false = sym (inside-self p.rows (Of x)) ∙ u in cc);
          there = owner-without p.rows r x s.forest is w o there;
          outside = outside-without p.rows r x s.forest is w (Of x) o above;
        }

    by-row : (q : Option Row) → row_of p.rows r ≡ q → IsQuietRow q → ValidAt p.next q r → MayBePlaced (remove p r) (unwrap_or (owner_of p.rows r) Root) x
    by-row None e quiet v = absurd quiet
    by-row (Some row) e quiet v =
        let shaped : Shaped Quiet row.owner r = subst (λ (m : Mark). Shaped m row.owner r) quiet v.2 in
        let at : owner_of p.rows r ≡ row.owner = ap owner_in e in
        rw at (by-owner row.owner at shaped)

pub releasing : (x : Obj) (fs : List Frame) (p : Pool) (k : ℕ) → Sound (frame.Free (Releasing x)) fs p → KeptBy (step (frame.Free (Releasing x)) p) fs k
releasing x fs p k s = each (newest_ref p.rows x) refl
  where
    tries : newest_ref p.rows x ≡ None → (fs : List Frame) → AllWait fs → IsCalled (footing fs) → Tries x (footing fs) p
    tries e [] w c = absurd c
    tries e (g ∷ gs) w c = below g (waiter g gs w.0) c
      where
        below : (g : Frame) → Waiter g → IsCalled (footing (g ∷ gs)) → Tries x (footing (g ∷ gs)) p
        below _ (ForFree q y) c = e
        below _ (ForClear y) c = e
        below _ (ForParting y v) c = e
        below _ (ForRelease y) c = e
        below _ _ c = absurd c

    each : (n : Option Obj) → newest_ref p.rows x ≡ n → KeptBy (lifted p.ring (release_step x (newest_ref p.rows x) p)) fs k
    each None e = rw e (goes_on (frame.Free (Releasing x)) (frame.Free (Beginning x)) fs p (λ y. refl) (tries e fs s.waiting s.rests.0, given_up-object x fs p s.rests) s)
    each (Some r) e =
        let w = newest-refers p.rows x r s.forest.distinct e in
        let is : target_at p.rows r ≡ Some x = rw w.1 w.2 in
        let ne : r ≢ x = apart p x r x (given_up-object x fs p s.rests) is in
        rw e (by_test (is_inside p.rows (Of r) (Of x))
        (λ t. rw t (dropped-sound (frame.Free (Releasing x)) (frame.Free (Releasing x)) fs p r x s is (λ y. refl) (given_up-dropped x r fs p s.rests ne)))
        (λ t. rw t (dropped-sound (frame.Free (Releasing x)) (frame.Free (Giving x (unwrap_or (owner_of p.rows r) Root))) fs p r x s is (λ y. refl)
        (giver (frame.Free (Releasing x)) fs p x r s s.rests is t))))
