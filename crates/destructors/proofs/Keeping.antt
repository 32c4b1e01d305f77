-- What the moves of the open frees keep: a free stays at work, the measure falls, and no more places are wanted.
use Rattle.std.proofs.Common.{◌≡◌, ℕ, ◌+◌, ◌≤◌, ◌<◌, nat_eq, List, [], ◌∷◌, ◌++◌, map, length, Option, Some, None, true, refl, sym, ◌∙◌, ap, subst, arith}
use Rattle.step_machine.specs.Machine.{Move as Do}
use Rattle.step_machine.proofs.Ends.{Leads}
use Rattle.tree_specs.specs.Machine.Profiles.{InRun, InLoop}
use Rattle.tree_specs.specs.declared.frame.Frame.{Frame}
use Rattle.tree_specs.specs.declared.frame.Frame.TheVariants as frame
use Rattle.tree_specs.specs.declared.frame.FreeFrame.{FreeFrame}
use Rattle.tree_specs.specs.declared.frame.FreeFrame.TheVariants.{Unlinking, Releasing, Giving, Beginning, Hooked, Judged, Preparing, Draining, Prepared, Dooming, Leaving, Looping, FreeingChild, AfterChild}
use Rattle.tree_specs.specs.declared.frame.Purpose.{Purpose}
use Rattle.tree_specs.specs.declared.frame.Purpose.TheVariants.{Removal, Emptying}
use Rattle.tree_specs.specs.declared.free_step.FreeReply.{FreeReply}
use Rattle.tree_specs.specs.declared.free_step.FreeReply.TheVariants.{Held, Running, Refused as IsRefused}
use Rattle.tree_specs.specs.declared.free_step.FreeStep.{FreeStep}
use Rattle.tree_specs.specs.declared.free_step.FreeStep.TheVariants.{Ask, Prepare, Drain, Done}
use Rattle.tree_specs.specs.declared.object.Obj.{Obj}
use Rattle.tree_specs.specs.declared.object.Owner.{Owner}
use Rattle.tree_specs.specs.declared.object.Owner.TheVariants.{Of}
use Rattle.tree_specs.specs.declared.row.Row.{Row}
use Rattle.tree_specs.specs.declared.row.Mark.{Mark}
use Rattle.tree_specs.specs.declared.kind.Kind.{Kind}
use Rattle.tree_specs.specs.declared.row.Mark.TheVariants.{Quiet, Asked, Busy, Doomed, Dying}
use Rattle.tree_specs.specs.Tree.Pool.{Pool, row_of, is_below, owner_of, first_kid, target_at, newest_ref_of, is_inside, without, marked_row, hooked_row, left_row, set_mark}
use Rattle.tree_specs.specs.Tree.Targets.{newest_ref}
use Rattle.tree_specs.specs.Words.Objects.{same}
use Rattle.tree_specs.specs.Tree.Heirs.{heir}
use Rattle.tree_specs.specs.Tree.Inside.{total}
use Rattle.tree_specs.specs.Calls.Refusals.{is_request, is_queue}
use Rattle.tree_specs.specs.Machine.FreeTable.{FreeMove, free_step, free_resume, begin_step, refs_step, unlink_step, release_step, child_step, loop_step, hand_on_step}
use Rattle.tree_specs.specs.Machine.Table.{Step, table, lifted}
use Rattle.tree_specs.specs.Invariants.Measure.{below_cost, below_wants, top_cost, cost}
use Rattle.tree_specs.specs.Invariants.Sound.{phase_of, phases, claim_if, claims, footing, Sound}
use Rattle.tree_specs.specs.Invariants.Sound.Footing.{OnDropping}
use Rattle.tree_specs.specs.declared.frame.RequestFrame.TheVariants.{Dropping}
use Rattle.tree_specs.specs.Invariants.Consistent.{IsStacked, IsPaidFor}
use Rattle.tree_specs.proofs.Tree.Numbered.{by_test}
use Rattle.tree_specs.proofs.Tree.Rows.{total-without, total-placed, total-changed}
use Rattle.tree_specs.proofs.Invariants.Changes.{dying-row, running-row, claim-here, heir-placed, not-zero}
use Rattle.tree_specs.proofs.Turns.FallingFrees.{free-lower}
use Rattle.tree_specs.proofs.Turns.Lowering.{Room, total-kept}
use Rattle.tree_specs.proofs.Turns.Load.{placed-kept}
use Rattle.destructors.specs.Frees.{OpenFrees, awaits_run, answered, moved, moves}
use Rattle.destructors.specs.Works.{frees_among, as_received, IsHosted, AtWork, IsAtWork, GoesOn}
use Rattle.destructors.specs.Moves.{MoveRests}
use Rattle.destructors.specs.Room.{mark_places, row_places, work_places, wanted}
use Rattle.destructors.proofs.Grounds.{rests}
use Rattle.destructors.proofs.Received.{undropped}
use Rattle.destructors.proofs.FreesKept.{free-kept}
use Rattle.destructors.proofs.Hosting.{other_cost, AwaitsRun, awaits-run, LiftedTo, OnTold, OnMove, moves-on}

pub work-rests : (f : FreeFrame) (fs : List FreeFrame) (p : Pool) → AtWork (f ∷ fs) p → MoveRests f p
work-rests f fs p w = rests f w.below p w.sound

-- ---- what a move leads to

-- what holds of the works of a host
abbrev IsHost : Frame → List Frame → Pool → ℕ → Type 0
IsHost f fs p k = Sound f fs p × (IsStacked f fs × IsPaidFor f fs p)

-- what a step leads to, in two respects
pairs : (P Q : Frame → List Frame → Pool → ℕ → Type 0) (m : Step) (fs : List Frame) → Leads table P m fs 0 → Leads table Q m fs 0 → Leads table (λ f gs p k. P f gs p k × Q f gs p k) m fs 0
pairs P Q (Do.Done a p) [] l k = tt
pairs P Q (Do.Done a p) (g ∷ gs) l k = (l, k)
pairs P Q (Do.Go f p) fs l k = (l, k)
pairs P Q (Do.Emit e f p) fs l k = (l, k)
pairs P Q (Do.Wait q f p) fs l k = tt
pairs P Q (Do.Call g f p) fs l k = (l, k)

hosts-on : (f : FreeFrame) (fs : List FreeFrame) (p : Pool) → (w : IsHosted f fs p) → Leads table IsHost (lifted p.ring (free_step f p)) w.below 0
hosts-on f fs p w = pairs (λ g gs q k. Sound g gs q) (λ g gs q k. IsStacked g gs × IsPaidFor g gs q) (lifted p.ring (free_step f p)) w.below
    (free-kept f w.below p 0 w.sound) (placed-kept (frame.Free f) w.below p 0 w.sound w.seated w.light)

at-work : (former : List Frame) (s : OpenFrees) → LiftedTo IsHost former s → IsAtWork s
at-work former s l = subst (λ (z : List FreeFrame). AtWork z s.pool) (sym l.works) (record { below = l.below; frees = l.frees; sound = l.holds.0; seated = l.holds.1.0; light = l.holds.1.1; turns = l.turns })

-- a move that tells nothing leaves a free at work
pub kept : (f : FreeFrame) (fs : List FreeFrame) (p : Pool) (t : OpenFrees) → AtWork (f ∷ fs) p → moves (f ∷ fs) p ≡ (None, t) → IsAtWork t
kept f fs p t w e = at-work w.below t (subst (OnMove IsHost w.below) e (moves-on IsHost w.below f fs p w refl (hosts-on f fs p w)))

-- what is told says how the frees go on
pub told-kept : (f : FreeFrame) (fs : List FreeFrame) (p : Pool) (told : FreeStep) (t : OpenFrees) → AtWork (f ∷ fs) p → moves (f ∷ fs) p ≡ (Some told, t) → GoesOn told t
told-kept f fs p told t w e = each told (subst (OnMove IsHost w.below) e (moves-on IsHost w.below f fs p w refl (hosts-on f fs p w)))
  where
    each : (told : FreeStep) → OnTold IsHost w.below told t → GoesOn told t
    each (Ask x) l = l
    each (Prepare x) l = l
    each (Drain x) l = l
    each (Done a) l = l
    each _ l = at-work w.below t l

-- ---- the measure

-- the cost of the works without those between them
abbrev pub works_cost : ℕ → FreeFrame → List FreeFrame → Pool → ℕ
works_cost R f fs p = cost R (frame.Free f) (map (λ g. frame.Free g) fs) p 0

abbrev pub free_cost : ℕ → List FreeFrame → Pool → ℕ
free_cost R [] p = 0
free_cost R (f ∷ fs) p = works_cost R f (map as_received fs) p

both-costs : (fs : List Frame) → below_cost fs ≡ below_cost (map (λ g. frame.Free g) (frees_among fs)) + other_cost fs
both-costs [] = refl
both-costs (frame.Free f ∷ fs) = let ih = both-costs fs in omega (arith, ih)
both-costs (frame.Call c ∷ fs) = let ih = both-costs fs in omega (arith, ih)
both-costs (frame.Turn t ∷ fs) = let ih = both-costs fs in omega (arith, ih)
both-costs (frame.Outside o ∷ fs) = let ih = both-costs fs in omega (arith, ih)
both-costs (frame.Request r ∷ fs) = let ih = both-costs fs in omega (arith, ih)

-- a free that waits for no free has no children to look at
no-kids : (rows : List Row) (fs : List FreeFrame) → AwaitsRun fs → below_wants rows (map (λ g. frame.Free g) fs) ≡ 4
no-kids rows [] w = refl
no-kids rows (Hooked x h ∷ fs) w = refl
no-kids rows (Preparing x ∷ fs) w = refl
no-kids rows (Draining x ∷ fs) w = refl
no-kids rows (_ ∷ fs) w = cc

-- so it is among the works of a host, where no entry of a queue is freed
same-kids : (rows : List Row) (f : FreeFrame) (fs : List Frame) → (footing fs ≡ OnDropping → ⊥) → IsStacked (frame.Free f) fs → below_wants rows fs ≡ below_wants rows (map (λ g. frame.Free g) (frees_among fs))
same-kids rows f [] apart s = refl
same-kids rows f (frame.Free g ∷ gs) apart s = among g
  where
    among : (g : FreeFrame) → below_wants rows (frame.Free g ∷ gs) ≡ below_wants rows (frame.Free g ∷ map (λ h. frame.Free h) (frees_among gs))
    among (Looping x purpose) = refl
    among _ = refl
same-kids rows f (frame.Call c ∷ gs) apart s = sym (no-kids rows (frees_among gs) (awaits-run (frame.Call c) gs (λ z. z) s.1))
same-kids rows f (frame.Turn t ∷ gs) apart s = sym (no-kids rows (frees_among gs) (awaits-run (frame.Turn t) gs (λ z. z) s.1))
same-kids rows f (frame.Outside o ∷ gs) apart s = sym (no-kids rows (frees_among gs) (awaits-run (frame.Outside o) gs (λ z. z) s.1))
same-kids rows f (frame.Request (Dropping q e) ∷ gs) apart s = absurd (apart refl)
same-kids rows f (frame.Request r ∷ gs) apart s = sym (no-kids rows (frees_among gs) (awaits-run (frame.Request r) gs (λ z. z) s.1))

same-top : (R : ℕ) (f : FreeFrame) (fs : List Frame) (rows : List Row) → (footing fs ≡ OnDropping → ⊥) → IsStacked (frame.Free f) fs → top_cost R (frame.Free f) fs rows ≡ top_cost R (frame.Free f) (map (λ g. frame.Free g) (frees_among fs)) rows
same-top R (Unlinking o x) fs rows apart s = let k = same-kids rows (Unlinking o x) fs apart s in omega (arith, k)
same-top R (Releasing x) fs rows apart s = let k = same-kids rows (Releasing x) fs apart s in omega (arith, k)
same-top R (Beginning x) fs rows apart s = let k = same-kids rows (Beginning x) fs apart s in omega (arith, k)
same-top R (Dooming x) fs rows apart s = let k = same-kids rows (Dooming x) fs apart s in omega (arith, k)
same-top R _ fs rows apart s = refl

-- in a host the works cost as much more as those between them
hosted-cost : (R : ℕ) (f : FreeFrame) (fs : List Frame) (p : Pool) → (footing fs ≡ OnDropping → ⊥) → IsStacked (frame.Free f) fs → cost R (frame.Free f) fs p 0 ≡ works_cost R f (frees_among fs) p + other_cost fs
hosted-cost R f fs p apart s = let a = both-costs fs in let b = same-top R f fs p.rows apart s in omega (arith, a, b)

-- a move that tells nothing lowers the measure
pub falls : (R : ℕ) (f : FreeFrame) (fs : List FreeFrame) (p : Pool) (t : OpenFrees) → AtWork (f ∷ fs) p → length p.rows ≤ R → moves (f ∷ fs) p ≡ (None, t)
    → (length t.pool.rows ≤ R) × (free_cost R t.works t.pool < free_cost R (f ∷ fs) p)
falls R f fs p t w n e = fell (subst (OnMove Q w.below) e (moves-on Q w.below f fs p w refl l))
  where
    Low : Frame → List Frame → Pool → ℕ → Type 0
    Low g gs q j = Room R g q j × (cost R g gs q j < cost R (frame.Free f) w.below p 0)

    Q : Frame → List Frame → Pool → ℕ → Type 0
    Q g gs q j = Low g gs q j × IsHost g gs q j

    l : Leads table Q (lifted p.ring (free_step f p)) w.below 0
    l = pairs Low IsHost (lifted p.ring (free_step f p)) w.below (free-lower R f w.below p 0 w.sound (omega (arith, n))) (hosts-on f fs p w)

    fell : LiftedTo Q w.below t → (length t.pool.rows ≤ R) × (free_cost R t.works t.pool < free_cost R (f ∷ fs) p)
    fell u =
        let a = hosted-cost R f w.below p (undropped w.below fs w.frees w.sound.waiting) w.seated in
        let b = hosted-cost R u.first u.below t.pool (undropped u.below u.later u.frees u.holds.1.0.waiting) u.holds.1.1.0 in
        let c : free_cost R t.works t.pool ≡ works_cost R u.first (frees_among u.below) t.pool =
        ap (λ (z : List FreeFrame). free_cost R z t.pool) u.works ∙ ap (λ (z : List FreeFrame). works_cost R u.first z t.pool) (sym u.frees) in
        let d : works_cost R f (frees_among w.below) p ≡ free_cost R (f ∷ fs) p = ap (λ (z : List FreeFrame). works_cost R f z p) w.frees in
        let r = u.holds.0.0 in
        let s = u.holds.0.1 in
        let o = u.cost in
        (omega (arith, r), omega (arith, a, b, c, d, s, o))

-- ---- room

-- the places that a move wants, over those that the work has
abbrev Slim : ℕ → FreeMove → Type 0
Slim n (Do.Done a q) = total row_places q.rows ≤ n
Slim n (Do.Go g q) = work_places g + total row_places q.rows ≤ n
Slim n (Do.Emit t g q) = work_places g + total row_places q.rows ≤ n
Slim n (Do.Wait t g q) = work_places g + total row_places q.rows ≤ n
Slim n (Do.Call g h q) = work_places g + 1 + total row_places q.rows ≤ n

slim-begin : (x : Obj) (p : Pool) → Slim (0 + total row_places p.rows) (begin_step x (row_of p.rows x) p)
slim-begin x p = each (row_of p.rows x) refl
  where
    marked : (r : Row) (m : Mark) → row_of p.rows x ≡ Some r → mark_places m ≡ mark_places r.mark → total row_places (set_mark p x m).rows ≡ total row_places p.rows
    marked r m e same_places = total-kept row_places (marked_row m) p.rows x r e same_places

    -- what is asked has its place in the work
    asked : (r : Row) → r.mark ≡ Quiet → row_of p.rows x ≡ Some r → total row_places (set_mark p x Asked).rows + 1 ≡ total row_places p.rows
    asked r m e = let w = total-changed row_places (marked_row Asked) p.rows x r e in let n = ap mark_places m in omega (arith, w, n)

    marks : (r : Row) (m : Mark) → r.mark ≡ m → row_of p.rows x ≡ Some r → Slim (0 + total row_places p.rows) (begin_step x (row_of p.rows x) p)
    marks r Quiet m e =
        let u = asked r m e in
        by_test (is_request r.kind)
        (λ t. rw (e, m, t) (omega (arith, u)))
        (λ t. by_test (is_queue r.kind)
        (λ q. rw (e, m, t, q) (omega (arith, u)))
        (λ q. by_test (nat_eq r.hook 0) (λ v. rw (e, m, t, q, v) (omega arith)) (λ v. rw (e, m, t, q, v) (omega (arith, u)))))
    marks r Busy m e = let u = marked r Doomed e (sym (ap mark_places m)) in rw (e, m) (omega (arith, u))
    marks r _ m e = rw (e, m) (omega arith)

    each : (o : Option Row) → row_of p.rows x ≡ o → Slim (0 + total row_places p.rows) (begin_step x (row_of p.rows x) p)
    each None e = rw e (omega arith)
    each (Some r) e = marks r r.mark refl e

slim-handed : (x c : Obj) (noted : Option Owner) (purpose : Purpose) (a : FreeReply) (fs : List Frame) (p : Pool) → Sound (frame.Free (AfterChild x c noted purpose a)) fs p → Slim (1 + total row_places p.rows) (hand_on_step x c noted purpose p)
slim-handed x c noted purpose a fs p s = by_test (is_below (owner_of p.rows c) (Of x))
    (λ t. let may = heir-placed x c noted _ fs p s t in let w = total-placed row_places p (heir p.rows x c noted) c may.row may.is refl in rw t (omega (arith, w)))
    (λ t. rw t (omega arith))

-- a row that goes wants no place
fewer-places : (rs : List Row) (x : Obj) → total row_places (without rs x) ≤ total row_places rs
fewer-places [] x = omega arith
fewer-places (r ∷ rs) x = let ih = fewer-places rs x in by_test (same r.serial x) (λ t. rw t (omega arith)) (λ t. rw t (omega (arith, ih)))

-- a row that nothing goes on with
quiet-places : (k : Kind) (m : Mark) → [] ≡ phase_of k m → mark_places m ≡ 1
quiet-places k (Dying former) e = cc
quiet-places k Asked e = cc
quiet-places k _ e = refl

slim : (f : FreeFrame) (fs : List Frame) (p : Pool) → Sound (frame.Free f) fs p → Slim (work_places f + total row_places p.rows) (free_step f p)
slim (Unlinking o x) fs p s = each (newest_ref_of p.rows o x)
  where
    each : (r : Option Obj) → Slim (0 + total row_places p.rows) (unlink_step x r p)
    each None = omega arith
    each (Some r) = let l = fewer-places p.rows r in omega (arith, l)
slim (Releasing x) fs p s = each (newest_ref p.rows x)
  where
    each : (r : Option Obj) → Slim (0 + total row_places p.rows) (release_step x r p)
    each None = omega arith
    each (Some r) = let l = fewer-places p.rows r in by_test (is_inside p.rows (Of r) (Of x)) (λ t. rw t (omega (arith, l))) (λ t. rw t (omega (arith, l)))
slim (Giving x o) fs p s = let w = total-placed row_places p o x s.rests.row s.rests.is refl in omega (arith, w)
slim (Beginning x) fs p s = each (newest_ref p.rows x)
  where
    each : (r : Option Obj) → Slim (0 + total row_places p.rows) (refs_step x r p)
    each None = slim-begin x p
    each (Some r) = let l = fewer-places p.rows r in by_test (is_inside p.rows (Of r) (Of x)) (λ t. rw t (omega (arith, l))) (λ t. rw t (omega (arith, l)))
slim (Hooked x h) fs p s = omega arith
slim (Preparing x) fs p s = omega arith
slim (Draining x) fs p s = omega arith
slim (Judged x h v) fs p s =
    let row = running-row (row_of p.rows x) (claims x fs) (claim-here x InRun (claims x fs) (row_of p.rows x) (s.open_frees x)) in
    by_test (nat_eq v 0)
    (λ t. let u = total-kept row_places (hooked_row 0) p.rows x row.0 row.1 refl in rw (t, not-zero h s.rests) (omega (arith, u)))
    (λ t. let u = total-changed row_places (marked_row Quiet) p.rows x row.0 row.1 in let n = ap mark_places row.4 in rw t (omega (arith, u, n)))
slim (Prepared x) fs p s =
    let row = running-row (row_of p.rows x) (claims x fs) (claim-here x InRun (claims x fs) (row_of p.rows x) (s.open_frees x)) in
    let u = total-changed row_places (marked_row Quiet) p.rows x row.0 row.1 in
    let n = ap mark_places row.4 in
    omega (arith, u, n)
slim (Leaving x h) fs p s =
    let w = total-changed row_places left_row p.rows x s.rests.0 s.rests.1 in
    let none = s.rests.3 in
    by_test (nat_eq h 0)
    (λ t.
    let all : [] ≡ phases (row_of p.rows x) = rw (t, none) at (s.open_frees x) in
    let l = quiet-places s.rests.0.kind s.rests.0.mark (rw s.rests.1 at all) in
    rw t (omega (arith, w, l)))
    (λ t.
    let all : claim_if (same x x) InRun ++ [] ≡ phases (row_of p.rows x) = rw (t, none) at (s.open_frees x) in
    let row = running-row (row_of p.rows x) [] (claim-here x InRun [] (row_of p.rows x) all) in
    let is : Some s.rests.0 ≡ Some row.0 = sym s.rests.1 ∙ row.1 in
    let same_row : s.rests.0 ≡ row.0 = cc in
    let n = ap mark_places (ap (λ (r : Row). r.mark) same_row ∙ row.4) in
    rw t (omega (arith, w, n)))
slim (Looping x purpose) fs p s = each purpose s (first_kid p.rows (Of x))
  where
    each : (purpose : Purpose) → Sound (frame.Free (Looping x purpose)) fs p → (o : Option Obj) → Slim (1 + total row_places p.rows) (loop_step x purpose o p)
    each purpose s (Some c) = taken (target_at p.rows c)
      where
        taken : (target : Option Obj) → Slim (1 + total row_places p.rows) (child_step x c purpose target p)
        taken None = omega arith
        taken (Some target) = let l = fewer-places p.rows c in omega (arith, l)
    each (Removal h) s None =
        let row = dying-row (row_of p.rows x) (claims x fs) (claim-here x InLoop (claims x fs) (row_of p.rows x) (s.open_frees x)) in
        let w = total-without row_places p.rows x row.0 row.1 in
        omega (arith, w)
    each Emptying s None = omega arith
slim (AfterChild x c noted purpose Held) fs p s = slim-handed x c noted purpose Held fs p s
slim (AfterChild x c noted purpose Running) fs p s = slim-handed x c noted purpose Running fs p s
slim (AfterChild x c noted purpose (IsRefused v)) fs p s = slim-handed x c noted purpose (IsRefused v) fs p s
slim _ fs p s = omega arith

pub run-places : (f : FreeFrame) → awaits_run f ≡ true → work_places f ≡ 1
run-places (Hooked x h) e = refl
run-places (Preparing x) e = refl
run-places (Draining x) e = refl
run-places _ e = cc

resumed-places : (f : FreeFrame) (a : FreeReply) → work_places (free_resume f a) ≤ 1
resumed-places (Leaving x h) a = by_test (nat_eq h 0) (λ t. rw t (omega arith)) (λ t. rw t (omega arith))
resumed-places (FreeingChild x c noted purpose) a = omega arith
resumed-places (Hooked x h) a = omega arith
resumed-places _ a = omega arith

wants-answered : (a : FreeReply) (fs : List FreeFrame) (q : Pool) → wanted (answered a q fs).1.works (answered a q fs).1.pool.rows ≤ length fs + total row_places q.rows
wants-answered a [] q = omega arith
wants-answered a (f ∷ fs) q = by_test (awaits_run f) (λ t. let w = run-places f t in rw t (omega (arith, w))) (λ t. let w = resumed-places f a in rw t (omega (arith, w)))

-- no move wants more places
pub narrow : (f : FreeFrame) (fs : List FreeFrame) (p : Pool) (o : Option FreeStep) (t : OpenFrees) → AtWork (f ∷ fs) p → moves (f ∷ fs) p ≡ (o, t)
    → wanted t.works t.pool.rows ≤ wanted (f ∷ fs) p.rows
narrow f fs p o t w e =
    let n = each (free_step f p) (slim f w.below p w.sound) in
    subst (λ (z : Option FreeStep × OpenFrees). wanted z.1.works z.1.pool.rows ≤ wanted (f ∷ fs) p.rows) e n
  where
    each : (m : FreeMove) → Slim (work_places f + total row_places p.rows) m → wanted (moved m fs).1.works (moved m fs).1.pool.rows ≤ wanted (f ∷ fs) p.rows
    each (Do.Done a q) s = let u = wants-answered a fs q in omega (arith, s, u)
    each _ s = omega (arith, s)
