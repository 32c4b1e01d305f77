-- What is known of a move that tells nothing, by what comes next of the work.
use Rattle.std.proofs.Common.{◌≡◌, nat_eq, Option, Some, None, refl, ap}
use Rattle.step_machine.specs.Machine.{Move as Do}
use Rattle.tree_specs.specs.declared.frame.FreeFrame.{FreeFrame}
use Rattle.tree_specs.specs.declared.frame.FreeFrame.TheVariants.{Unlinking, Releasing, Beginning, Hooked, Judged, Preparing, Draining, Prepared, Dooming, Looping, FreeingChild, AfterChild, Ending}
use Rattle.tree_specs.specs.declared.frame.Purpose.{Purpose}
use Rattle.tree_specs.specs.declared.frame.Purpose.TheVariants.{Removal, Emptying}
use Rattle.tree_specs.specs.declared.free_step.FreeReply.{FreeReply}
use Rattle.tree_specs.specs.declared.free_step.FreeReply.TheVariants.{Ok}
use Rattle.tree_specs.specs.declared.object.Obj.{Obj}
use Rattle.tree_specs.specs.declared.object.Owner.TheVariants.{Of}
use Rattle.tree_specs.specs.declared.row.Row.{Row}
use Rattle.tree_specs.specs.declared.row.Mark.{Mark}
use Rattle.tree_specs.specs.declared.row.Mark.TheVariants.{Quiet, Asked, Busy, Doomed, Dying}
use Rattle.tree_specs.specs.Tree.Pool.{Pool, marked_row, row_of, is_below, owner_of, first_kid, target_at, newest_ref_of, is_inside}
use Rattle.tree_specs.specs.Tree.Targets.{newest_ref}
use Rattle.tree_specs.specs.Machine.FreeTable.{FreeMove, free_step, begin_by, begin_step, refs_step, unlink_step, release_step, child_step, loop_step, hand_on_step, tried_step}
use Rattle.tree_specs.specs.Calls.Refusals.{is_request, is_queue}
use Rattle.tree_specs.proofs.Tree.Numbered.{by_test}
use Rattle.destructors.specs.declared.motion.Outlook.TheVariants.{Ending as Over, Going, Pushing}
use Rattle.references.specs.Rows.{SameRefs}
use Rattle.references.proofs.Rows.{same-changed}
use Rattle.destructors.specs.Moves.{outlook_of, entered, MayEnter, MoveRests}

-- what a move that tells nothing does to the objects
DoesTo : FreeFrame → Pool → FreeMove → Type 0
DoesTo f p (Do.Done a q) = q ≡ p
DoesTo f p (Do.Go g q) = (q ≡ entered f g p) × MayEnter f g p
DoesTo f p (Do.Call g h q) = q ≡ p
DoesTo f p _ = Unit {0}

does : (f : FreeFrame) (p : Pool) → MoveRests f p → DoesTo f p (free_step f p)
unfolding DoesTo
does (Unlinking o x) p rests = each (newest_ref_of p.rows o x)
  where
    each : (r : Option Obj) → DoesTo (Unlinking o x) p (unlink_step x r p)
    each None = (refl, tt)
    each (Some r) = tt
does (Releasing x) p rests = each (newest_ref p.rows x)
  where
    each : (r : Option Obj) → DoesTo (Releasing x) p (release_step x r p)
    each None = (refl, tt)
    each (Some r) = by_test (is_inside p.rows (Of r) (Of x)) (λ t. rw t tt) (λ t. rw t tt)
does (Beginning x) p rests = each (newest_ref p.rows x)
  where
    marks : (r : Row) (m : Mark) → row_of p.rows x ≡ Some r → r.mark ≡ m → DoesTo (Beginning x) p (begin_by x r.kind r.hook m p)
    marks r Quiet e m = by_test (is_request r.kind)
        (λ t. rw t (refl, (rw e refl, rw (e, m) refl)))
        (λ t. by_test (is_queue r.kind)
        (λ v. rw (t, v) (refl, (rw e refl, rw (e, m) refl)))
        (λ v. rw (t, v) (by_test (nat_eq r.hook 0)
        (λ u. rw u (refl, tt))
        (λ u. rw u (refl, (rw e refl, rw (e, m) refl))))))
    marks r Asked e m = refl
    marks r Busy e m = tt
    marks r Doomed e m = refl
    marks r (Dying former) e m = refl

    rows : (o : Option Row) → row_of p.rows x ≡ o → DoesTo (Beginning x) p (begin_step x o p)
    rows None e = refl
    rows (Some r) e = marks r r.mark e refl

    each : (r : Option Obj) → DoesTo (Beginning x) p (refs_step x r p)
    each None = rows (row_of p.rows x) refl
    each (Some r) = by_test (is_inside p.rows (Of r) (Of x)) (λ t. rw t tt) (λ t. rw t tt)
does (Judged x h v) p rests = by_test (nat_eq v 0) (λ t. rw t tt) (λ t. rw t tt)
does (Prepared x) p rests = (refl, rests)
does (Looping x purpose) p rests = each purpose (first_kid p.rows (Of x))
  where
    child : (purpose : Purpose) (c : Obj) (t : Option Obj) → DoesTo (Looping x purpose) p (child_step x c purpose t p)
    child purpose c None = refl
    child purpose c (Some t) = tt

    each : (purpose : Purpose) (o : Option Obj) → DoesTo (Looping x purpose) p (loop_step x purpose o p)
    each (Removal h) None = tt
    each Emptying None = refl
    each purpose (Some c) = child purpose c (target_at p.rows c)
does (AfterChild x c noted purpose a) p rests = each a
  where
    handed : (b : FreeReply) → DoesTo (AfterChild x c noted purpose b) p (hand_on_step x c noted purpose p)
    handed b = by_test (is_below (owner_of p.rows c) (Of x)) (λ t. rw t tt) (λ t. rw t (refl, tt))

    each : (b : FreeReply) → DoesTo (AfterChild x c noted purpose b) p (tried_step x c noted purpose b p)
    each Ok = (refl, tt)
    each b = handed b
does (Dooming x) p rests = refl
does (FreeingChild x c noted purpose) p rests = refl
does (Ending a) p rests = refl
does _ p rests = tt

-- a free that ends leaves the objects as they are
abbrev pub EndsOver : Pool → FreeMove → Type 0
EndsOver p (Do.Done a q) = q ≡ p
EndsOver p m = Unit {0}

pub ends-over : (f : FreeFrame) (p : Pool) → MoveRests f p → EndsOver p (free_step f p)
unfolding DoesTo
ends-over f p rests = each (free_step f p) (does f p rests)
  where
    each : (m : FreeMove) → DoesTo f p m → EndsOver p m
    each (Do.Done a q) d = d
    each _ d = tt

-- marks leave the references
pub entered-refs : (f g : FreeFrame) (p : Pool) → SameRefs p.rows (entered f g p).rows
entered-refs (Prepared x) g p = same-changed (marked_row Quiet) p.rows x (λ r. refl) (λ r. refl)
entered-refs f (Hooked x h) p = same-changed (marked_row Asked) p.rows x (λ r. refl) (λ r. refl)
entered-refs f (Preparing x) p = same-changed (marked_row Asked) p.rows x (λ r. refl) (λ r. refl)
entered-refs f (Draining x) p = same-changed (marked_row Asked) p.rows x (λ r. refl) (λ r. refl)
entered-refs f g p = λ r. refl

module _ (f : FreeFrame) (p : Pool) (rests : MoveRests f p) where
  pub goes : (g : FreeFrame) → Going g ≡ outlook_of (free_step f p) → (free_step f p ≡ Do.Go g (entered f g p)) × MayEnter f g p
  unfolding DoesTo
  goes g e = each (free_step f p) (does f p rests) e
    where
      each : (m : FreeMove) → DoesTo f p m → Going g ≡ outlook_of m → (m ≡ Do.Go g (entered f g p)) × MayEnter f g p
      each (Do.Go h q) d e =
          let same : g ≡ h = cc in
          rw same (ap (λ (z : Pool). let m : FreeMove = Do.Go h z in m) d.0, d.1)
      each _ d e = cc

  pub ends : (a : FreeReply) → Over a ≡ outlook_of (free_step f p) → free_step f p ≡ Do.Done a p
  unfolding DoesTo
  ends a e = each (free_step f p) (does f p rests) e
    where
      each : (m : FreeMove) → DoesTo f p m → Over a ≡ outlook_of m → m ≡ Do.Done a p
      each (Do.Done b q) d e = cc
      each _ d e = cc

  pub pushes : (g h : FreeFrame) → Pushing g h ≡ outlook_of (free_step f p) → free_step f p ≡ Do.Call g h p
  unfolding DoesTo
  pushes g h e = each (free_step f p) (does f p rests) e
    where
      each : (m : FreeMove) → DoesTo f p m → Pushing g h ≡ outlook_of m → m ≡ Do.Call g h p
      each (Do.Call i j q) d e = cc
      each _ d e = cc
