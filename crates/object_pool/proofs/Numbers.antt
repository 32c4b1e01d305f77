-- Moves of frees give no number.
use Rattle.std.proofs.Common.{◌≡◌, ℕ, nat_eq, List, [], ◌∷◌, Option, Some, None, refl, sym, ap, ◌∙◌}
use Rattle.step_machine.specs.Machine.{Move as Do}
use Rattle.tree_specs.specs.declared.kind.Kind.{Kind}
use Rattle.tree_specs.specs.declared.object.Obj.{Obj}
use Rattle.tree_specs.specs.declared.object.Owner.{Owner}
use Rattle.tree_specs.specs.declared.object.Owner.TheVariants.{Of}
use Rattle.tree_specs.specs.declared.row.Row.{Row}
use Rattle.tree_specs.specs.declared.row.Mark.{Mark}
use Rattle.tree_specs.specs.declared.row.Mark.TheVariants.{Quiet}
use Rattle.tree_specs.specs.declared.frame.FreeFrame.{FreeFrame}
use Rattle.tree_specs.specs.declared.frame.FreeFrame.TheVariants.{Unlinking, Releasing, Beginning, Judged, Looping, AfterChild}
use Rattle.tree_specs.specs.declared.frame.Purpose.{Purpose}
use Rattle.tree_specs.specs.declared.frame.Purpose.TheVariants.{Removal, Emptying}
use Rattle.tree_specs.specs.declared.free_step.FreeReply.{FreeReply}
use Rattle.tree_specs.specs.declared.free_step.FreeReply.TheVariants as free_reply
use Rattle.tree_specs.specs.declared.free_step.FreeStep.{FreeStep}
use Rattle.tree_specs.specs.Tree.Targets.{newest_ref}
use Rattle.tree_specs.specs.Tree.Pool.{Pool, row_of, is_below, owner_of, target_at, newest_ref_of, is_inside, first_kid}
use Rattle.tree_specs.specs.Machine.FreeTable.{FreeMove, free_step, begin_by, begin_step, refs_step, unlink_step, release_step, loop_step, child_step, tried_step}
use Rattle.tree_specs.specs.Calls.Refusals.{is_request, is_queue}
use Rattle.tree_specs.proofs.Tree.Numbered.{by_test}
use Rattle.destructors.specs.Frees.{OpenFrees, awaits_run, moved, moves, next_of, Silently, Still, On, Steps, Begins}

-- the objects after a move
abbrev pool_in : FreeMove → Pool
pool_in (Do.Done a p) = p
pool_in (Do.Go f p) = p
pool_in (Do.Emit t f p) = p
pool_in (Do.Wait t f p) = p
pool_in (Do.Call g f p) = p

begun-next : (x : Obj) (k : Kind) (h : ℕ) (m : Mark) (p : Pool) → (pool_in (begin_by x k h m p)).next ≡ p.next
begun-next x k h Quiet p = by_test (is_request k) (λ t. rw t refl) (λ t. by_test (is_queue k) (λ u. rw (t, u) refl) (λ u. rw (t, u) (by_test (nat_eq h 0) (λ v. rw v refl) (λ v. rw v refl))))
begun-next x k h _ p = refl

found-next : (x : Obj) (p : Pool) (o : Option Row) → (pool_in (begin_step x o p)).next ≡ p.next
found-next x p None = refl
found-next x p (Some r) = begun-next x r.kind r.hook r.mark p

refs-next : (x : Obj) (p : Pool) (o : Option Obj) → (pool_in (refs_step x o p)).next ≡ p.next
refs-next x p None = found-next x p (row_of p.rows x)
refs-next x p (Some r) = by_test (is_inside p.rows (Of r) (Of x)) (λ t. rw t refl) (λ t. rw t refl)

unlink-next : (x : Obj) (p : Pool) (o : Option Obj) → (pool_in (unlink_step x o p)).next ≡ p.next
unlink-next x p None = refl
unlink-next x p (Some r) = refl

release-next : (x : Obj) (p : Pool) (o : Option Obj) → (pool_in (release_step x o p)).next ≡ p.next
release-next x p None = refl
release-next x p (Some r) = by_test (is_inside p.rows (Of r) (Of x)) (λ t. rw t refl) (λ t. rw t refl)

loop-next : (x : Obj) (purpose : Purpose) (p : Pool) (o : Option Obj) → (pool_in (loop_step x purpose o p)).next ≡ p.next
loop-next x (Removal h) p None = refl
loop-next x Emptying p None = refl
loop-next x purpose p (Some c) = each (target_at p.rows c)
  where
    each : (o : Option Obj) → (pool_in (child_step x c purpose o p)).next ≡ p.next
    each None = refl
    each (Some target) = refl

tried-next : (x c : Obj) (noted : Option Owner) (purpose : Purpose) (a : FreeReply) (p : Pool) → (pool_in (tried_step x c noted purpose a p)).next ≡ p.next
tried-next x c noted purpose free_reply.Ok p = refl
tried-next x c noted purpose _ p = by_test (is_below (owner_of p.rows c) (Of x)) (λ t. rw t refl) (λ t. rw t refl)

move-next : (f : FreeFrame) (p : Pool) → (pool_in (free_step f p)).next ≡ p.next
move-next (Unlinking o x) p = unlink-next x p (newest_ref_of p.rows o x)
move-next (Releasing x) p = release-next x p (newest_ref p.rows x)
move-next (Beginning x) p = refs-next x p (newest_ref p.rows x)
move-next (Judged x h v) p = by_test (nat_eq v 0) (λ t. rw t refl) (λ t. rw t refl)
move-next (Looping x purpose) p = loop-next x purpose p (first_kid p.rows (Of x))
move-next (AfterChild x c noted purpose a) p = tried-next x c noted purpose a p
move-next _ p = refl

moved-next : (m : FreeMove) (fs : List FreeFrame) → (moved m fs).1.pool.next ≡ (pool_in m).next
moved-next (Do.Done a p) [] = refl
moved-next (Do.Done a p) (f ∷ fs) = by_test (awaits_run f) (λ t. rw t refl) (λ t. rw t refl)
moved-next (Do.Go f p) fs = refl
moved-next (Do.Emit t f p) fs = refl
moved-next (Do.Wait t f p) fs = refl
moved-next (Do.Call g f p) fs = refl

next-kept : (s : OpenFrees) → (next_of s).1.pool.next ≡ s.pool.next
next-kept s = each s.works
  where
    each : (fs : List FreeFrame) → (moves fs s.pool).1.pool.next ≡ s.pool.next
    each [] = refl
    each (f ∷ fs) = moved-next (free_step f s.pool) fs ∙ move-next f s.pool

silent-next : (s t : OpenFrees) → Silently s t → t.pool.next ≡ s.pool.next
silent-next s _ Still = refl
silent-next s _ (On t u before e) = sym (ap (λ (n : Option FreeStep × OpenFrees). n.1.pool.next) e) ∙ next-kept t ∙ silent-next s t before

pub begins-next : (works : List FreeFrame) (p : Pool) (t : OpenFrees) → Begins works p t → t.pool.next ≡ p.next
begins-next works p t b = silent-next _ t b.moves_on

pub steps-next : (s t : OpenFrees) (told : FreeStep) → Steps s told t → t.pool.next ≡ s.pool.next
steps-next s t told h = silent-next _ t h.moves_on ∙ next-kept s
