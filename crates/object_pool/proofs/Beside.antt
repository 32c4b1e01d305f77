-- Open frees go on alike whatever waits for its turn beside the rows; an object that leaves its owner waits no more.
use Rattle.std.proofs.Common.{◌≡◌, ℕ, List, [], ◌∷◌, Option, Some, None, nat_eq, refl, ap, ◌∙◌}
use Rattle.step_machine.specs.Machine.{Move as Do}
use Rattle.tree_specs.specs.declared.kind.Kind.{Kind}
use Rattle.tree_specs.specs.declared.object.Obj.{Obj}
use Rattle.tree_specs.specs.declared.object.Owner.{Owner}
use Rattle.tree_specs.specs.declared.object.Owner.TheVariants.{Of}
use Rattle.tree_specs.specs.declared.row.Row.{Row}
use Rattle.tree_specs.specs.declared.row.Mark.{Mark}
use Rattle.tree_specs.specs.declared.row.Mark.TheVariants.{Quiet}
use Rattle.tree_specs.specs.declared.frame.FreeFrame.{FreeFrame}
use Rattle.tree_specs.specs.declared.frame.FreeFrame.TheVariants.{Unlinking, Releasing, Giving, Beginning, Hooked, Judged, Preparing, Draining, Prepared, Dooming, Leaving, Looping, FreeingChild, AfterChild, Ending}
use Rattle.tree_specs.specs.declared.frame.Purpose.{Purpose}
use Rattle.tree_specs.specs.declared.frame.Purpose.TheVariants.{Removal, Emptying}
use Rattle.tree_specs.specs.declared.free_step.FreeReply.{FreeReply}
use Rattle.tree_specs.specs.declared.free_step.FreeReply.TheVariants as free_reply
use Rattle.tree_specs.specs.declared.free_step.FreeStep.{FreeStep}
use Rattle.tree_specs.specs.declared.free_step.FreeStep.TheVariants.{Ask, Prepare, Drain, Done}
use Rattle.tree_specs.specs.Tree.Targets.{newest_ref}
use Rattle.tree_specs.specs.Tree.Pool.{Pool, row_of, is_below, owner_of, target_at, newest_ref_of, is_inside, first_kid}
use Rattle.tree_specs.specs.Machine.FreeTable.{FreeMove, free_step, begin_by, begin_step, refs_step, drop_step, unlink_step, release_step, judge_step, loop_step, child_step, hand_on_step, tried_step}
use Rattle.tree_specs.specs.Machine.Profiles.{Phase}
use Rattle.tree_specs.specs.Invariants.Sound.{Footing, FreeRests, Tries, claims, footing}
use Rattle.tree_specs.specs.Invariants.Sound.Footing.{OnFree, OnCall, OnDropping, AtBottom}
use Rattle.tree_specs.specs.declared.frame.Frame.TheVariants as frame
use Rattle.tree_specs.specs.Calls.Refusals.{is_request, is_queue}
use Rattle.tree_specs.proofs.Tree.Numbered.{by_test}
use Rattle.destructors.specs.Frees.{OpenFrees, awaits_run, answered, moved, moves, next_of, returned, Silently, Still, On, speaking, speaks, Steps, Begins}
use Rattle.destructors.specs.Works.{IsHosted, AtWork, AreAwaiting, GoesOn}
use Rattle.object_pool.specs.Upcoming.{Upcoming, beside, frees_beside, after}

-- ---- a move

-- what a move tells
abbrev told_in : FreeMove → Option FreeStep
told_in (Do.Done a p) = None
told_in (Do.Go f p) = None
told_in (Do.Emit t f p) = Some t
told_in (Do.Wait t f p) = Some t
told_in (Do.Call g f p) = None

abbrev with_pool : (Pool → Pool) → FreeMove → FreeMove
with_pool g (Do.Done a p) = Do.Done a (g p)
with_pool g (Do.Go f p) = Do.Go f (g p)
with_pool g (Do.Emit t f p) = Do.Emit t f (g p)
with_pool g (Do.Wait t f p) = Do.Wait t f (g p)
with_pool g (Do.Call h f p) = Do.Call h f (g p)

-- a move with other events to come, by the rows before it
abbrev beside_move : Upcoming → List Row → FreeMove → FreeMove
beside_move u rs m = with_pool (beside (after rs (told_in m) u)) m

module _ (events : Upcoming) where
  begin-beside : (x : Obj) (k : Kind) (h : ℕ) (m : Mark) (p : Pool) → begin_by x k h m (beside events p) ≡ beside_move events p.rows (begin_by x k h m p)
  begin-beside x k h Quiet p = by_test (is_request k) (λ t. rw t refl) (λ t. by_test (is_queue k) (λ u. rw (t, u) refl) (λ u. rw (t, u) (by_test (nat_eq h 0) (λ v. rw v refl) (λ v. rw v refl))))
  begin-beside x k h _ p = refl

  found-beside : (x : Obj) (p : Pool) (o : Option Row) → begin_step x o (beside events p) ≡ beside_move events p.rows (begin_step x o p)
  found-beside x p None = refl
  found-beside x p (Some r) = begin-beside x r.kind r.hook r.mark p

  drop-beside : (x r : Obj) (p : Pool) → drop_step x r (beside events p) ≡ beside_move events p.rows (drop_step x r p)
  drop-beside x r p = by_test (is_inside p.rows (Of r) (Of x)) (λ t. rw t refl) (λ t. rw t refl)

  refs-beside : (x : Obj) (p : Pool) (o : Option Obj) → refs_step x o (beside events p) ≡ beside_move events p.rows (refs_step x o p)
  refs-beside x p None = found-beside x p (row_of p.rows x)
  refs-beside x p (Some r) = drop-beside x r p

  unlink-beside : (x : Obj) (p : Pool) (o : Option Obj) → unlink_step x o (beside events p) ≡ beside_move events p.rows (unlink_step x o p)
  unlink-beside x p None = refl
  unlink-beside x p (Some r) = refl

  release-beside : (x : Obj) (p : Pool) (o : Option Obj) → release_step x o (beside events p) ≡ beside_move events p.rows (release_step x o p)
  release-beside x p None = refl
  release-beside x p (Some r) = by_test (is_inside p.rows (Of r) (Of x)) (λ t. rw t refl) (λ t. rw t refl)

  judge-beside : (x : Obj) (h v : ℕ) (p : Pool) → judge_step x h v (beside events p) ≡ beside_move events p.rows (judge_step x h v p)
  judge-beside x h v p = by_test (nat_eq v 0) (λ t. rw t refl) (λ t. rw t refl)

  child-beside : (x c : Obj) (purpose : Purpose) (p : Pool) (o : Option Obj) → child_step x c purpose o (beside events p) ≡ beside_move events p.rows (child_step x c purpose o p)
  child-beside x c purpose p None = refl
  child-beside x c purpose p (Some target) = refl

  loop-beside : (x : Obj) (purpose : Purpose) (p : Pool) (o : Option Obj) → loop_step x purpose o (beside events p) ≡ beside_move events p.rows (loop_step x purpose o p)
  loop-beside x (Removal h) p None = refl
  loop-beside x Emptying p None = refl
  loop-beside x purpose p (Some c) = child-beside x c purpose p (target_at p.rows c)

  hand_on-beside : (x c : Obj) (noted : Option Owner) (purpose : Purpose) (p : Pool) → hand_on_step x c noted purpose (beside events p) ≡ beside_move events p.rows (hand_on_step x c noted purpose p)
  hand_on-beside x c noted purpose p = by_test (is_below (owner_of p.rows c) (Of x)) (λ t. rw t refl) (λ t. rw t refl)

  tried-beside : (x c : Obj) (noted : Option Owner) (purpose : Purpose) (a : FreeReply) (p : Pool) → tried_step x c noted purpose a (beside events p) ≡ beside_move events p.rows (tried_step x c noted purpose a p)
  tried-beside x c noted purpose free_reply.Ok p = refl
  tried-beside x c noted purpose free_reply.Held p = hand_on-beside x c noted purpose p
  tried-beside x c noted purpose free_reply.Running p = hand_on-beside x c noted purpose p
  tried-beside x c noted purpose (free_reply.Refused v) p = hand_on-beside x c noted purpose p

  move-beside : (f : FreeFrame) (p : Pool) → free_step f (beside events p) ≡ beside_move events p.rows (free_step f p)
  move-beside (Unlinking o x) p = unlink-beside x p (newest_ref_of p.rows o x)
  move-beside (Releasing x) p = release-beside x p (newest_ref p.rows x)
  move-beside (Giving x o) p = refl
  move-beside (Beginning x) p = refs-beside x p (newest_ref p.rows x)
  move-beside (Hooked x h) p = refl
  move-beside (Judged x h v) p = judge-beside x h v p
  move-beside (Preparing x) p = refl
  move-beside (Draining x) p = refl
  move-beside (Prepared x) p = refl
  move-beside (Dooming x) p = refl
  move-beside (Leaving x h) p = refl
  move-beside (Looping x purpose) p = loop-beside x purpose p (first_kid p.rows (Of x))
  move-beside (FreeingChild x c noted purpose) p = refl
  move-beside (AfterChild x c noted purpose a) p = tried-beside x c noted purpose a p
  move-beside (Ending a) p = refl

  -- ---- the frees one move after another

  -- what comes of a move
  abbrev Beside : List Row → Option FreeStep × OpenFrees → Option FreeStep × OpenFrees
  Beside rs n = (n.0, frees_beside (after rs n.0 events) n.1)

  answered-beside : (a : FreeReply) (p : Pool) (fs : List FreeFrame) (rs : List Row) → answered a (beside events p) fs ≡ Beside rs (answered a p fs)
  answered-beside a p [] rs = refl
  answered-beside a p (f ∷ fs) rs = by_test (awaits_run f) (λ t. rw t refl) (λ t. rw t refl)

  moved-beside : (rs : List Row) (m : FreeMove) (fs : List FreeFrame) → moved (beside_move events rs m) fs ≡ Beside rs (moved m fs)
  moved-beside rs (Do.Done a p) fs = answered-beside a p fs rs
  moved-beside rs (Do.Go f p) fs = refl
  moved-beside rs (Do.Emit t f p) fs = refl
  moved-beside rs (Do.Wait t f p) fs = refl
  moved-beside rs (Do.Call g f p) fs = refl

  pub next-beside : (s : OpenFrees) → next_of (frees_beside events s) ≡ Beside s.pool.rows (next_of s)
  next-beside s = each s.works
    where
      each : (fs : List FreeFrame) → moves fs (beside events s.pool) ≡ Beside s.pool.rows (moves fs s.pool)
      each [] = refl
      each (f ∷ fs) = ap (λ (m : FreeMove). moved m fs) (move-beside f s.pool) ∙ moved-beside s.pool.rows (free_step f s.pool) fs

  pub speaking-beside : (s : OpenFrees) → speaking (frees_beside events s) ≡ speaking s
  speaking-beside s = ap (λ (n : Option FreeStep × OpenFrees). speaks s.works n.0) (next-beside s)

  pub silent-beside : (s t : OpenFrees) → Silently s t → Silently (frees_beside events s) (frees_beside events t)
  silent-beside s _ Still = Still
  silent-beside s _ (On t u before e) = On (frees_beside events t) (frees_beside events u) (silent-beside s t before) (next-beside t ∙ ap (Beside t.pool.rows) e)

  pub begins-beside : (works : List FreeFrame) (p : Pool) (t : OpenFrees) → Begins works p t → Begins works (beside events p) (frees_beside events t)
  begins-beside works p t b = record { moves_on = silent-beside _ t b.moves_on; settles = speaking-beside t ∙ b.settles }

-- a step, and what it leaves to come
pub steps-beside : (u : Upcoming) (s t : OpenFrees) (told : FreeStep) → Steps s told t → Steps (frees_beside u s) told (frees_beside (after s.pool.rows (Some told) u) t)
steps-beside u s t told h =
    let n = next-beside u s in
    let left = after s.pool.rows (Some told) u in
    record {
      tells = ap (λ (k : Option FreeStep × OpenFrees). k.0) n ∙ h.tells;
      moves_on = rw (n, h.tells) (silent-beside left (next_of s).1 t h.moves_on);
      settles = speaking-beside left t ∙ h.settles;
    }

-- ---- what holds of open frees holds where nothing is to come, and no turn is under way

module _ (p : Pool) (u v : Upcoming) (still : v.turning ≡ None) where
  abbrev here : Pool
  here = beside u p

  abbrev there : Pool
  there = beside v p

  tries-same : (x : Obj) (on : Footing) → Tries x on here → Tries x on there
  tries-same x (OnFree (FreeingChild y d noted purpose)) t = t
  tries-same x (OnFree _) t = absurd t
  tries-same x OnCall t = t
  tries-same x OnDropping t = t
  tries-same x AtBottom t = t
  tries-same x _ t = absurd t

  rests-same : (f : FreeFrame) (on : Footing) (claimed : Obj → List Phase) → FreeRests f on claimed here → FreeRests f on claimed there
  rests-same (Giving x o) on claimed h = record { row = h.row; is = h.is; live = h.live; apart = h.apart; there = h.there; outside = h.outside }
  rests-same (Beginning x) on claimed h = (tries-same x on h.0, h.1)
  rests-same (Dooming x) on claimed h = (tries-same x on h.0, h.1, h.2)
  rests-same (AfterChild x c noted purpose free_reply.Running) on claimed h = h
  rests-same (AfterChild x c noted purpose _) on claimed h = (tt, h.1)
  rests-same _ on claimed h = h

  pub hosted-same : (f : FreeFrame) (fs : List FreeFrame) → IsHosted f fs here → IsHosted f fs there
  hosted-same f fs w =
      let g = frame.Free f in
      let s = w.sound in
      record {
        below = w.below;
        frees = w.frees;
        sound = record {
          started = s.started;
          valid = s.valid;
          forest = s.forest;
          refers = s.refers;
          open_frees = s.open_frees;
          waiting = s.waiting;
          turned = rw still tt;
          rests = rests-same f (footing w.below) (λ x. claims x w.below) s.rests;
        };
        seated = w.seated;
        light = w.light;
        turns = w.turns;
      }

  pub works-same : (fs : List FreeFrame) → AtWork fs here → AtWork fs there
  works-same [] h = h
  works-same (f ∷ fs) h = hosted-same f fs h

  pub awaits-same : (fs : List FreeFrame) → AreAwaiting fs here → AreAwaiting fs there
  unfolding hosted-same
  awaits-same fs a = record { over = hosted-same (Ending free_reply.Ok) fs a.over; on = a.on }

-- what a destructor has returned is judged whatever is to come
pub returned-beside : (v : ℕ) (u : Upcoming) (s : OpenFrees) → returned v (frees_beside u s) ≡ returned v s
returned-beside v u s = each s.works
  where
    each : (fs : List FreeFrame) → returned v (record { works = fs; pool = beside u s.pool }) ≡ returned v (record { works = fs; pool = s.pool })
    each [] = refl
    each (Hooked x h ∷ fs) = refl
    each (f ∷ fs) = refl
