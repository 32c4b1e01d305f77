-- How many queues frees may still come to: each comes to one at most once before the next question.
use Rattle.std.proofs.Common.{◌≡◌, ℕ, ◌+◌, ◌≤◌, nat_eq, Bool, true, false, List, [], ◌∷◌, length, Option, Some, None, not, is_some, unwrap_or, refl, sym, ◌∙◌, ap, subst, arith}
use Rattle.std.specs.Prelude.{◌&&◌}
use Rattle.std.specs.List.{filter}
use Rattle.std.specs.Ordering.{nat_cmp, eq_by_cmp}
use Rattle.std.specs.FinMap.Entries.{find}
use Rattle.step_machine.specs.Machine.{Move as Do}
use Rattle.tree_specs.specs.declared.frame.FreeFrame.{FreeFrame}
use Rattle.tree_specs.specs.declared.frame.FreeFrame.TheVariants.{Unlinking, Releasing, Giving, Beginning, Hooked, Judged, Preparing, Draining, Prepared, Leaving, Looping, FreeingChild, AfterChild}
use Rattle.tree_specs.specs.declared.frame.Purpose.{Purpose}
use Rattle.tree_specs.specs.declared.frame.Purpose.TheVariants.{Removal, Emptying}
use Rattle.tree_specs.specs.declared.free_step.FreeReply.{FreeReply}
use Rattle.tree_specs.specs.declared.free_step.FreeReply.TheVariants.{Ok}
use Rattle.tree_specs.specs.declared.free_step.FreeStep.{FreeStep}
use Rattle.tree_specs.specs.declared.free_step.FreeStep.TheVariants.{Done}
use Rattle.tree_specs.specs.declared.object.Obj.{Obj}
use Rattle.tree_specs.specs.declared.object.Owner.{Owner}
use Rattle.tree_specs.specs.declared.object.Owner.TheVariants.{Root, Of}
use Rattle.tree_specs.specs.declared.row.Row.{Row}
use Rattle.tree_specs.specs.declared.row.Mark.{Mark}
use Rattle.tree_specs.specs.declared.row.Mark.TheVariants as mark
use Rattle.tree_specs.specs.Words.Objects.{same}
use Rattle.tree_specs.specs.Calls.Refusals.{is_request, is_queue, is_queue_row}
use Rattle.tree_specs.specs.Events.Coming.{is_quiet_mark}
use Rattle.tree_specs.specs.Machine.FreeTable.{FreeMove, free_step, begin_plain, begin_by, begin_step, refs_step, unlink_step, release_step, child_step, loop_step, hand_on_step}
use Rattle.tree_specs.specs.Tree.Forest.{Distinct}
use Rattle.tree_specs.specs.Tree.Heirs.{heir}
use Rattle.tree_specs.specs.Tree.Pool.{Pool, row_of, without, changed, marked_row, left_row, hooked_row, place, is_inside, is_below, owner_of, first_kid, target_at, newest_ref_of}
use Rattle.tree_specs.specs.Tree.Targets.{newest_ref}
use Rattle.tree_specs.specs.Invariants.Sound.{AllWait}
use Rattle.tree_specs.proofs.Tree.Numbered.{by_test, same-true, same-equal}
use Rattle.tree_specs.proofs.Tree.Rows.{total-changed, total-placed, row_of-changed-same}
use Rattle.tree_specs.proofs.Events.EntryLaws.{without-other}
use Rattle.destructors.specs.Frees.{OpenFrees, awaits_run, answered, moves, Silently, Still, On}
use Rattle.destructors.specs.Frees.{moved as free_moved}
use Rattle.destructors.specs.Runs.{IsNews, AsksFor}
use Rattle.destructors.proofs.FreeMoves.{IsMoveOf, is_move}
use Rattle.destructors.proofs.Hosting.{AwaitsRun}
use Rattle.object_pool.proofs.Fewer.{entries-fewer}
use Rattle.host_core.specs.declared.waiting.Waiting.{Waiting}
use Rattle.host_core.specs.Places.{undrained, count_undrained, drains_after, drains_of}
use Rattle.host_core.specs.Stacks.{below_free}

-- ---- the rows

busy : (m : Mark) (r : Row) → is_quiet_mark m ≡ false → undrained (marked_row m r) ≡ 0
busy m r b = by_test (is_queue r.kind) (λ t. rw (t, b) refl) (λ t. rw t refl)

-- a change by which no row comes to be one more
pub changed-fewer : (f : Row → Row) (rs : List Row) (x : Obj) → ((r : Row) → undrained (f r) ≤ undrained r) → count_undrained (changed f rs x) ≤ count_undrained rs
changed-fewer f [] x k = omega arith
changed-fewer f (r ∷ rs) x k = by_test (same r.serial x)
    (λ t. let m = k r in rw t (omega (arith, m)))
    (λ t. let n = changed-fewer f rs x k in rw t (omega (arith, n)))

pub marked-fewer : (m : Mark) (rs : List Row) (x : Obj) → is_quiet_mark m ≡ false → count_undrained (changed (marked_row m) rs x) ≤ count_undrained rs
marked-fewer m rs x b = changed-fewer (marked_row m) rs x (λ r. let n = busy m r b in omega (arith, n))

pub one-most : (r : Row) → undrained r ≤ 1
one-most r = by_test (is_queue r.kind && is_quiet_mark r.mark) (λ t. rw t (omega arith)) (λ t. rw t (omega arith))

-- any change makes one more at most
pub changed-most : (f : Row → Row) (rs : List Row) (x : Obj) → count_undrained (changed f rs x) ≤ count_undrained rs + 1
changed-most f [] x = omega arith
changed-most f (r ∷ rs) x = by_test (same r.serial x)
    (λ t. let m = one-most (f r) in rw t (omega (arith, m)))
    (λ t. let n = changed-most f rs x in rw t (omega (arith, n)))

pub without-fewer : (rs : List Row) (x : Obj) → count_undrained (without rs x) ≤ count_undrained rs
without-fewer [] x = omega arith
without-fewer (r ∷ rs) x = by_test (same r.serial x)
    (λ t. rw t (omega arith))
    (λ t. let n = without-fewer rs x in rw t (omega (arith, n)))

pub placed-fewer : (p : Pool) (o : Owner) (x : Obj) → count_undrained (place p o x).rows ≤ count_undrained p.rows
placed-fewer p o x = each (row_of p.rows x) refl
  where
    each : (found : Option Row) → row_of p.rows x ≡ found → count_undrained (place p o x).rows ≤ count_undrained p.rows
    each None e = rw e (without-fewer p.rows x)
    each (Some r) e = let n = total-placed undrained p o x r e refl in omega (arith, n)

-- what leaves its owner is none of them
left-fewer : (rs : List Row) (x : Obj) → count_undrained (changed left_row rs x) ≤ count_undrained (without rs x)
left-fewer [] x = omega arith
left-fewer (r ∷ rs) x = by_test (same r.serial x)
    (λ t. let n : undrained (left_row r) ≡ 0 = busy (mark.Dying (unwrap_or r.owner Root)) r refl in rw t (omega (arith, n)))
    (λ t. let n = left-fewer rs x in rw t (omega (arith, n)))

-- the others are the same whatever one is changed to
others-same : (f : Row → Row) (rs : List Row) (x : Obj) → ((r : Row) → (f r).serial ≡ r.serial) → without (changed f rs x) x ≡ without rs x
others-same f [] x k = refl
others-same f (r ∷ rs) x k = by_test (same r.serial x)
    (λ t. let u : same (f r).serial x ≡ true = rw (k r) t in rw t (rw u refl))
    (λ t. let n = others-same f rs x k in rw t (rw t (ap (λ (l : List Row). r ∷ l) n)))

-- the others are no more than all, whatever one is changed to
others-fewer : (f : Row → Row) (rs : List Row) (x : Obj) → count_undrained (without rs x) ≤ count_undrained (changed f rs x)
others-fewer f [] x = omega arith
others-fewer f (r ∷ rs) x = by_test (same r.serial x)
    (λ t. rw t (omega arith))
    (λ t. let n = others-fewer f rs x in rw t (omega (arith, n)))

-- one that was quiet is as before once it was asked and is quiet again
again-same : (rs : List Row) (x : Obj) (r : Row) → row_of rs x ≡ Some r → r.mark ≡ mark.Quiet → count_undrained (changed (marked_row mark.Quiet) (changed (marked_row mark.Asked) rs x) x) ≡ count_undrained rs
again-same rs x r e q =
    let asked = marked_row mark.Asked in
    let quiet = marked_row mark.Quiet in
    let first = total-changed undrained asked rs x r e in
    let second = total-changed undrained quiet (changed asked rs x) x (asked r) (row_of-changed-same asked rs x r (λ s. refl) e) in
    let was : undrained (quiet (asked r)) ≡ undrained r = rw q refl in
    omega (arith, first, second, was)

-- a queue that is asked is one fewer
asked-fewer : (rs : List Row) (x : Obj) (r : Row) → row_of rs x ≡ Some r → r.mark ≡ mark.Quiet → is_queue r.kind ≡ true → 1 + count_undrained (changed (marked_row mark.Asked) rs x) ≤ count_undrained rs
asked-fewer rs x r e q k =
    let n = total-changed undrained (marked_row mark.Asked) rs x r e in
    let was : undrained r ≡ 1 = rw (q, k) refl in
    let is : undrained (marked_row mark.Asked r) ≡ 0 = busy mark.Asked r refl in
    omega (arith, n, was, is)

-- ---- a move of the innermost free

-- the work that a free waits for is a child's
abbrev IsTrying : FreeFrame → Type 0
IsTrying (FreeingChild x c noted purpose) = Unit {0}
IsTrying f = ⊥

abbrev DrainsIn : ℕ → FreeMove → Type 0
DrainsIn n (Do.Done a q) = count_undrained q.rows ≤ n
DrainsIn n (Do.Go g q) = drains_after g q.rows ≤ n
DrainsIn n (Do.Emit t g q) = drains_after g q.rows ≤ n
DrainsIn n (Do.Wait t g q) = drains_after g q.rows ≤ n
DrainsIn n (Do.Call g h q) = (drains_after g q.rows ≤ n) × IsTrying h

begins-fewer : (x : Obj) (p : Pool) (o : Option Row) → row_of p.rows x ≡ o → DrainsIn (count_undrained p.rows) (begin_step x o p)
begins-fewer x p None e = omega arith
begins-fewer x p (Some r) e = marks r.mark refl
  where
    plain : r.mark ≡ mark.Quiet → DrainsIn (count_undrained p.rows) (begin_plain x r.hook p)
    plain q = by_test (nat_eq r.hook 0)
        (λ t. rw t (without-fewer p.rows x))
        (λ t. let n = again-same p.rows x r e q in rw t (omega (arith, n)))

    marks : (m : Mark) → r.mark ≡ m → DrainsIn (count_undrained p.rows) (begin_by x r.kind r.hook m p)
    marks mark.Quiet q = by_test (is_request r.kind)
        (λ t. rw t (marked-fewer mark.Asked p.rows x refl))
        (λ t. by_test (is_queue r.kind)
        (λ u. let n = asked-fewer p.rows x r e q u in rw (t, u) n)
        (λ u. let k = plain q in rw (t, u) k))
    marks mark.Busy q = marked-fewer mark.Doomed p.rows x refl
    marks mark.Asked q = omega arith
    marks mark.Doomed q = omega arith
    marks (mark.Dying former) q = omega arith

hands-fewer : (x c : Obj) (noted : Option Owner) (purpose : Purpose) (p : Pool) → DrainsIn (count_undrained p.rows) (hand_on_step x c noted purpose p)
hands-fewer x c noted purpose p = by_test (is_below (owner_of p.rows c) (Of x))
    (λ t. rw t (placed-fewer p (heir p.rows x c noted) c))
    (λ t. rw t (omega arith))

-- a free comes to no more queues than it might before
pub move-fewer : (f : FreeFrame) (p : Pool) → DrainsIn (drains_after f p.rows) (free_step f p)
move-fewer (Unlinking o x) p = each (newest_ref_of p.rows o x)
  where
    each : (r : Option Obj) → DrainsIn (count_undrained p.rows) (unlink_step x r p)
    each None = omega arith
    each (Some r) = without-fewer p.rows r
move-fewer (Releasing x) p = each (newest_ref p.rows x)
  where
    each : (r : Option Obj) → DrainsIn (count_undrained p.rows) (release_step x r p)
    each None = omega arith
    each (Some r) = by_test (is_inside p.rows (Of r) (Of x)) (λ t. rw t (without-fewer p.rows r)) (λ t. rw t (without-fewer p.rows r))
move-fewer (Giving x o) p = placed-fewer p o x
move-fewer (Beginning x) p = each (newest_ref p.rows x)
  where
    each : (r : Option Obj) → DrainsIn (count_undrained p.rows) (refs_step x r p)
    each None = begins-fewer x p (row_of p.rows x) refl
    each (Some r) = by_test (is_inside p.rows (Of r) (Of x)) (λ t. rw t (without-fewer p.rows r)) (λ t. rw t (without-fewer p.rows r))
move-fewer (Judged x h v) p = by_test (nat_eq v 0)
    (λ t.
    let others = others-same (hooked_row 0) p.rows x (λ r. refl) in
    let n = others-fewer (marked_row mark.Quiet) p.rows x in
    let k : count_undrained (without (changed (hooked_row 0) p.rows x) x) ≤ count_undrained (changed (marked_row mark.Quiet) p.rows x) = rw others n in
    rw t k)
    (λ t. rw t (omega arith))
move-fewer (Prepared x) p = let others = others-same (marked_row mark.Quiet) p.rows x (λ r. refl) in rw others (omega arith)
move-fewer (Leaving x h) p = left-fewer p.rows x
move-fewer (Looping x purpose) p = each purpose (first_kid p.rows (Of x))
  where
    taken : (purpose : Purpose) (c : Obj) (target : Option Obj) → DrainsIn (count_undrained p.rows) (child_step x c purpose target p)
    taken purpose c None = (omega arith, tt)
    taken purpose c (Some target) = without-fewer p.rows c

    each : (purpose : Purpose) (o : Option Obj) → DrainsIn (count_undrained p.rows) (loop_step x purpose o p)
    each purpose (Some c) = taken purpose c (target_at p.rows c)
    each (Removal h) None = without-fewer p.rows x
    each Emptying None = omega arith
move-fewer (AfterChild x c noted purpose Ok) p = omega arith
move-fewer (AfterChild x c noted purpose answer) p = hands-fewer x c noted purpose p
move-fewer _ p = omega arith

-- ---- the open frees

-- each free below one, up to what waits for no free, waits for that of a child
abbrev pub AreTrying : List FreeFrame → Type 0
AreTrying [] = Unit {0}
AreTrying (FreeingChild x c noted purpose ∷ fs) = AreTrying fs
AreTrying (f ∷ fs) = awaits_run f ≡ true

abbrev pub TryBelow : List FreeFrame → Type 0
TryBelow [] = Unit {0}
TryBelow (f ∷ fs) = AreTrying fs

-- after a move no more queues may be come to than this; and what the innermost free has answered to is what was there
abbrev pub DrainsAfter : ℕ → Option FreeStep × OpenFrees → Type 0
DrainsAfter n (Some (Done a), s) = count_undrained s.pool.rows ≤ n
DrainsAfter n (told, s) = (drains_of s.works s.pool.rows ≤ n) × TryBelow s.works

trying-below : (f : FreeFrame) (fs : List FreeFrame) → IsTrying f → AreTrying fs → AreTrying (f ∷ fs)
trying-below (FreeingChild x c noted purpose) fs t a = a
trying-below _ fs t a = absurd t

answered-fewer : (n : ℕ) (a : FreeReply) (q : Pool) (fs : List FreeFrame) → count_undrained q.rows ≤ n → AreTrying fs → DrainsAfter n (answered a q fs)
answered-fewer n a q [] k t = k
answered-fewer n a q (FreeingChild x c noted purpose ∷ fs) k t = (k, t)
answered-fewer n a q (Hooked x h ∷ fs) k t = k
answered-fewer n a q (Preparing x ∷ fs) k t = k
answered-fewer n a q (Draining x ∷ fs) k t = k
answered-fewer n a q (f ∷ fs) k t = cc

news-fewer : (n : ℕ) (t : FreeStep) (s : OpenFrees) → IsNews t → drains_of s.works s.pool.rows ≤ n → TryBelow s.works → DrainsAfter n (Some t, s)
news-fewer n (Done a) s is k b = absurd is
news-fewer n _ s is k b = (k, b)

asks-fewer : (n : ℕ) (t : FreeStep) (f : FreeFrame) (s : OpenFrees) → AsksFor t f → drains_of s.works s.pool.rows ≤ n → TryBelow s.works → DrainsAfter n (Some t, s)
asks-fewer n (Done a) f s is k b = absurd is
asks-fewer n _ f s is k b = (k, b)

moved-fewer : (n : ℕ) (f : FreeFrame) (p : Pool) (m : FreeMove) (fs : List FreeFrame) → IsMoveOf f p m → DrainsIn n m → AreTrying fs → DrainsAfter n (free_moved m fs)
moved-fewer n f p (Do.Done a q) fs of d t = answered-fewer n a q fs d t
moved-fewer n f p (Do.Go g q) fs of d t = (d, t)
moved-fewer n f p (Do.Emit told g q) fs of d t = news-fewer n told (record { works = g ∷ fs; pool = q }) of d t
moved-fewer n f p (Do.Wait told g q) fs of d t = asks-fewer n told f (record { works = g ∷ fs; pool = q }) of.2 d t
moved-fewer n f p (Do.Call g h q) fs of d t = (d.0, trying-below h fs d.1 t)

pub moves-fewer : (f : FreeFrame) (fs : List FreeFrame) (p : Pool) → AreTrying fs → DrainsAfter (drains_after f p.rows) (moves (f ∷ fs) p)
moves-fewer f fs p t = moved-fewer (drains_after f p.rows) f p (free_step f p) fs (is_move f p) (move-fewer f p) t

-- so it is after moves that tell nothing
pub silently-fewer : (s t : OpenFrees) → Silently s t → TryBelow s.works → (drains_of t.works t.pool.rows ≤ drains_of s.works s.pool.rows) × TryBelow t.works
silently-fewer s _ Still b = (omega arith, b)
silently-fewer s t (On u _ earlier last) b =
    let a = silently-fewer s u earlier b in
    let l = each u.works a.1 last in
    let first = a.0 in
    let second = l.0 in
    (omega (arith, first, second), l.1)
  where
    each : (works : List FreeFrame) → TryBelow works → moves works u.pool ≡ (None, t) → (drains_of t.works t.pool.rows ≤ drains_of works u.pool.rows) × TryBelow t.works
    each [] k m =
        let e : (let o : OpenFrees = record { works = []; pool = u.pool } in o) ≡ t = ap (λ (z : Option FreeStep × OpenFrees). z.1) m in
        rw (← e) (omega arith, tt)
    each (f ∷ fs) k m = subst (λ (z : Option FreeStep × OpenFrees). DrainsAfter (drains_after f u.pool.rows) z) m (moves-fewer f fs u.pool k)

-- ---- among the works of a host

-- the frees below the innermost one wait
pub try-below : (fs : List FreeFrame) (ws : List Waiting) → AllWait (below_free fs ws) → AreTrying fs
try-below [] ws w = tt
try-below (FreeingChild x c noted purpose ∷ fs) ws w = try-below fs ws w.1
try-below (Hooked x h ∷ fs) ws w = refl
try-below (Preparing x ∷ fs) ws w = refl
try-below (Draining x ∷ fs) ws w = refl
try-below (f ∷ fs) ws w = absurd w.0

-- so it is where whoever has begun the innermost one waits for no free
pub run-trying : (fs : List FreeFrame) → AwaitsRun fs → AreTrying fs
run-trying [] w = tt
run-trying (FreeingChild x c noted purpose ∷ fs) w = cc
run-trying (f ∷ fs) w = w

-- ---- as many as there are queues

-- each queue is kept
abbrev AreKept : List Row → List (ℕ × Bool) → Type 0
AreKept rs es = (x : Obj) → is_queue_row (row_of rs x) ≡ true → is_some (find nat_cmp x.0 es) ≡ true

pub undrained-most : (rs : List Row) (es : List (ℕ × Bool)) → Distinct rs → AreKept rs es → count_undrained rs ≤ length es
undrained-most [] es d k = omega arith
undrained-most (r ∷ rs) es d k = by_test (is_queue r.kind)
    (λ t. found (find nat_cmp r.serial.0 es) refl t (λ ds kept. undrained-most rs ds d.1 kept))
    (λ t. let n = undrained-most rs es d.1 others in rw t (omega (arith, n)))
  where
    -- another one is found behind it
    apart : (x : Obj) → is_queue_row (row_of rs x) ≡ true → same r.serial x ≡ false
    apart x q = by_test (same r.serial x)
        (λ t. let e : row_of rs x ≡ None = ap (row_of rs) (sym (same-true r.serial x t)) ∙ d.0 in let bad : false ≡ true = rw e at q in cc)
        (λ t. t)

    others : AreKept rs es
    others x q = let a = apart x q in k x (rw a q)

    flipped : (x : Obj) → same r.serial x ≡ false → same x r.serial ≡ false
    flipped x a = by_test (same x r.serial) (λ t. let e : same r.serial x ≡ true = same-equal r.serial x (sym (same-true x r.serial t)) in cc) (λ t. t)

    found : (o : Option Bool) → find nat_cmp r.serial.0 es ≡ o → is_queue r.kind ≡ true → ((ds : List (ℕ × Bool)) → AreKept rs ds → count_undrained rs ≤ length ds) → count_undrained (r ∷ rs) ≤ length es
    found None e t ih =
        let own : same r.serial r.serial ≡ true = same-equal r.serial r.serial refl in
        let there = k r.serial (rw own t) in
        let bad : false ≡ true = rw e at there in
        cc
    found (Some b) e t ih =
        let fewer = entries-fewer es r.serial.0 b e in
        let n = ih (filter (λ e. not (eq_by_cmp nat_cmp r.serial.0 e.0)) es) (λ x q. let a = without-other es r.serial x (flipped x (apart x q)) in rw a (others x q)) in
        let m = one-most r in
        omega (arith, fewer, n, m)
