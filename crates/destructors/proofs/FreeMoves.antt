-- What moves there are.
use Rattle.std.proofs.Common.{◌≡◌, ℕ, ◌<◌, nat_eq, List, [], ◌∷◌, Option, Some, None, true, false, refl, sym, subst, arith}
use Rattle.step_machine.specs.Machine.{Move as Do}
use Rattle.tree_specs.specs.declared.frame.FreeFrame.{FreeFrame}
use Rattle.tree_specs.specs.declared.frame.FreeFrame.TheVariants.{Unlinking, Releasing, Giving, Beginning, Hooked, Judged, Preparing, Draining, Leaving, Looping, AfterChild}
use Rattle.tree_specs.specs.declared.frame.Purpose.{Purpose}
use Rattle.tree_specs.specs.declared.frame.Purpose.TheVariants.{Removal, Emptying}
use Rattle.tree_specs.specs.declared.free_step.FreeReply.{FreeReply}
use Rattle.tree_specs.specs.declared.free_step.FreeReply.TheVariants.{Ok, Held, Running, Refused}
use Rattle.tree_specs.specs.declared.kind.Kind.{Kind}
use Rattle.tree_specs.specs.declared.object.Obj.{Obj}
use Rattle.tree_specs.specs.declared.object.Owner.TheVariants.{Of}
use Rattle.tree_specs.specs.declared.row.Row.{Row}
use Rattle.tree_specs.specs.declared.row.Mark.{Mark}
use Rattle.tree_specs.specs.declared.row.Mark.TheVariants.{Quiet}
use Rattle.tree_specs.specs.Tree.Pool.{Pool, row_of, is_below, owner_of, first_kid, target_at, newest_ref_of, is_inside}
use Rattle.tree_specs.specs.Tree.Targets.{newest_ref}
use Rattle.tree_specs.specs.Calls.Refusals.{is_request, is_queue}
use Rattle.tree_specs.specs.Machine.FreeTable.{FreeMove, free_step, begin_step, begin_by, refs_step, unlink_step, release_step, child_step, loop_step, hand_on_step}
use Rattle.tree_specs.proofs.Tree.Numbered.{by_test}
use Rattle.tree_links.specs.Links.{Links}
use Rattle.destructors.specs.Room.{work_places}
use Rattle.destructors.specs.Runs.{IsNews, AsksFor}
use Rattle.destructors.specs.Frees.{awaits_run, moved, moves, is_event, speaks}
use Rattle.destructors.specs.Engine.{HasRoom}

-- a move of a work over a pool: only a loop over children puts a work before itself, and only a work that awaits a run asks, and stays
abbrev pub IsMoveOf : FreeFrame → Pool → FreeMove → Type 0
IsMoveOf f p (Do.Done a q) = Unit {0}
IsMoveOf f p (Do.Go g q) = Unit {0}
IsMoveOf f p (Do.Emit t g q) = IsNews t
IsMoveOf f p (Do.Wait t g q) = (g ≡ f) × (q ≡ p) × AsksFor t f
IsMoveOf f p (Do.Call g h q) = (work_places f ≡ 1) × (awaits_run h ≡ false)

pub is_move : (f : FreeFrame) (p : Pool) → IsMoveOf f p (free_step f p)
is_move (Unlinking o x) p = each (newest_ref_of p.rows o x)
  where
    each : (r : Option Obj) → IsMoveOf (Unlinking o x) p (unlink_step x r p)
    each None = tt
    each (Some r) = tt
is_move (Releasing x) p = each (newest_ref p.rows x)
  where
    each : (r : Option Obj) → IsMoveOf (Releasing x) p (release_step x r p)
    each None = tt
    each (Some r) = by_test (is_inside p.rows (Of r) (Of x)) (λ t. rw t tt) (λ t. rw t tt)
is_move (Giving x o) p = tt
is_move (Beginning x) p = held (newest_ref p.rows x)
  where
    marks : (k : Kind) (h : ℕ) (m : Mark) → IsMoveOf (Beginning x) p (begin_by x k h m p)
    marks k h Quiet = by_test (is_request k) (λ t. rw t tt) (λ t. by_test (is_queue k) (λ v. rw (t, v) tt) (λ v. rw (t, v) (by_test (nat_eq h 0) (λ u. rw u tt) (λ u. rw u tt))))
    marks k h _ = tt

    each : (o : Option Row) → IsMoveOf (Beginning x) p (begin_step x o p)
    each None = tt
    each (Some r) = marks r.kind r.hook r.mark

    held : (r : Option Obj) → IsMoveOf (Beginning x) p (refs_step x r p)
    held None = each (row_of p.rows x)
    held (Some r) = by_test (is_inside p.rows (Of r) (Of x)) (λ t. rw t tt) (λ t. rw t tt)
is_move (Hooked x h) p = (refl, refl, refl)
is_move (Preparing x) p = (refl, refl, refl)
is_move (Draining x) p = (refl, refl, refl)
is_move (Judged x h v) p = by_test (nat_eq v 0) (λ t. rw t tt) (λ t. rw t tt)
is_move (Leaving x h) p = tt
is_move (Looping x purpose) p = each purpose (first_kid p.rows (Of x))
  where
    each : (purpose : Purpose) (o : Option Obj) → IsMoveOf (Looping x purpose) p (loop_step x purpose o p)
    each purpose (Some c) = taken c (target_at p.rows c)
      where
        taken : (c : Obj) (target : Option Obj) → IsMoveOf (Looping x purpose) p (child_step x c purpose target p)
        taken c None = (refl, refl)
        taken c (Some target) = tt
    each (Removal h) None = tt
    each Emptying None = tt
is_move (AfterChild x c noted purpose Held) p = by_test (is_below (owner_of p.rows c) (Of x)) (λ t. rw t tt) (λ t. rw t tt)
is_move (AfterChild x c noted purpose Running) p = by_test (is_below (owner_of p.rows c) (Of x)) (λ t. rw t tt) (λ t. rw t tt)
is_move (AfterChild x c noted purpose (Refused v)) p = by_test (is_below (owner_of p.rows c) (Of x)) (λ t. rw t tt) (λ t. rw t tt)
is_move _ p = tt

-- there is room for a work that is put below another
pub push_room : (f : FreeFrame) (tree : Links) (p q : Pool) (g h : FreeFrame) → HasRoom (Some f) tree → Do.Call g h q ≡ free_step f p → 0 < tree.room
push_room f tree p q g h room e =
    let w : (work_places f ≡ 1) × (awaits_run h ≡ false) = subst (IsMoveOf f p) (sym e) (is_move f p) in omega (arith, room, w.0)

-- ---- works that tell an event with their next move, or tell nothing

abbrev pub Announces : FreeFrame → Type 0
Announces (Unlinking o x) = Unit {0}
Announces (Releasing x) = Unit {0}
Announces (Giving x o) = Unit {0}
Announces (Judged x h v) = Unit {0}
Announces (AfterChild x c noted purpose a) = Unit {0}
Announces f = ⊥

pub announced : (f : FreeFrame) (fs : List FreeFrame) (p : Pool) → Announces f → speaks (f ∷ fs) (moves (f ∷ fs) p).0 ≡ true → is_event [] (moves (f ∷ fs) p).0 ≡ true
announced (Unlinking o x) fs p a loud = each (newest_ref_of p.rows o x) loud
  where
    each : (r : Option Obj) → speaks (Unlinking o x ∷ fs) (moved (unlink_step x r p) fs).0 ≡ true → is_event [] (moved (unlink_step x r p) fs).0 ≡ true
    each None loud = cc
    each (Some r) loud = refl
announced (Releasing x) fs p a loud = each (newest_ref p.rows x) loud
  where
    each : (r : Option Obj) → speaks (Releasing x ∷ fs) (moved (release_step x r p) fs).0 ≡ true → is_event [] (moved (release_step x r p) fs).0 ≡ true
    each None loud = cc
    each (Some r) loud = by_test (is_inside p.rows (Of r) (Of x)) (λ t. rw t refl) (λ t. rw t refl)
announced (Giving x o) fs p a loud = refl
announced (Judged x h v) fs p a loud = by_test (nat_eq v 0) (λ t. rw t refl) (λ t. rw t refl)
announced (AfterChild x c noted purpose answer) fs p a loud = each answer loud
  where
    handed : speaks (AfterChild x c noted purpose answer ∷ fs) (moved (hand_on_step x c noted purpose p) fs).0 ≡ true → is_event [] (moved (hand_on_step x c noted purpose p) fs).0 ≡ true
    handed loud = by_test (is_below (owner_of p.rows c) (Of x)) (λ t. rw t refl) (λ t. let bad : false ≡ true = rw t at loud in cc)

    each : (b : FreeReply) → speaks (AfterChild x c noted purpose b ∷ fs) (moves (AfterChild x c noted purpose b ∷ fs) p).0 ≡ true → is_event [] (moves (AfterChild x c noted purpose b ∷ fs) p).0 ≡ true
    each Ok loud = cc
    each Held loud = handed loud
    each Running loud = handed loud
    each (Refused v) loud = handed loud
announced _ fs p a loud = absurd a
