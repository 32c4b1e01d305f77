-- Each step of a free lowers the measure.
use Rattle.std.specs.Prelude.{unwrap_or}
use Rattle.tree_specs.specs.Machine.Profiles.{InRun, InLoop, tried_cost}
use Rattle.tree_specs.specs.declared.frame.FreeFrame.{FreeFrame}
use Rattle.tree_specs.proofs.Tree.Referring.{newest-refers, newest-of-refers}
use Rattle.tree_specs.specs.Tree.Targets.{newest_ref}
use Rattle.std.proofs.Common.{inl, inr, ◌⊎◌, ◌≡◌, ◌≢◌, ℕ, ◌+◌, ◌*◌, ◌≤◌, ◌<◌, List, [], ◌∷◌, length, Option, Some, None, true, false, nat_eq, if◌then◌else◌, refl, sym, ◌∙◌, ap, subst, arith}
use Rattle.step_machine.specs.Machine.{Move as Do}
use Rattle.tree_specs.specs.declared.object.Obj.{Obj}
use Rattle.tree_specs.specs.declared.object.Owner.{Owner}
use Rattle.tree_specs.specs.declared.object.Owner.TheVariants.{Of, Root}
use Rattle.tree_specs.specs.declared.row.Row.{Row}
use Rattle.tree_specs.specs.declared.row.Mark.{Mark}
use Rattle.tree_specs.specs.declared.row.Mark.TheVariants.{Quiet, Asked, Busy, Doomed, Dying}
use Rattle.tree_specs.specs.declared.event.Event.{Event}
use Rattle.tree_specs.specs.declared.frame.Frame.{Frame}
use Rattle.tree_specs.specs.declared.frame.Frame.TheVariants as frame
use Rattle.tree_specs.specs.declared.frame.CallFrame.TheVariants.{Awaiting}
use Rattle.tree_specs.specs.declared.frame.TurnFrame.TheVariants.{Parting, Clearing}
use Rattle.tree_specs.specs.declared.frame.FreeFrame.TheVariants.{Unlinking, Releasing, Giving, Beginning, Hooked, Judged, Preparing, Prepared, Dooming, Leaving, Looping, FreeingChild, AfterChild, Ending, Draining}
use Rattle.tree_specs.specs.declared.frame.Purpose.{Purpose}
use Rattle.tree_specs.specs.declared.frame.Purpose.TheVariants.{Removal, Emptying}
use Rattle.tree_specs.specs.declared.frame.Answer.TheVariants.{Freed}
use Rattle.tree_specs.specs.declared.frame.RequestFrame.TheVariants as request
use Rattle.tree_specs.specs.declared.kind.Kind.{Kind}
use Rattle.tree_specs.specs.declared.kind.Kind.TheVariants as kind
use Rattle.tree_specs.specs.declared.free_step.FreeReply.{FreeReply}
use Rattle.tree_specs.specs.declared.free_step.FreeReply.TheVariants.{Ok, Running, Refused, Held}
use Rattle.std.proofs.Math.Nat.{mul-le-mul_left}
use Rattle.tree_specs.specs.Events.Requests.{without_note}
use Rattle.tree_specs.specs.Calls.Refusals.{is_request, is_queue, is_entry}
use Rattle.tree_specs.specs.Words.Objects.{same_owner}
use Rattle.tree_specs.specs.Tree.Pool.{Pool, row_of, is_below, owner_of, first_kid, without, changed, remove, left_row, place, detach, doom, marked_row, hooked_row, target_at, newest_ref_of, is_inside, set_mark}
use Rattle.tree_specs.specs.Events.Rotation.{closes_with}
use Rattle.tree_specs.specs.Tree.Heirs.{heir}
use Rattle.tree_specs.specs.Machine.FreeTable.{begin_plain, begin_quiet, begin_step, judge_step, last_step, loop_step, child_step, refs_step, unlink_step, release_step, hand_on_step}
use Rattle.tree_specs.specs.Machine.Table.{step, resume, lifted, announced, closed_event}
use Rattle.tree_specs.specs.Invariants.Sound.{claims, AllWait, IsLive, Stands, Tries, Sound, IsQuietRow, footing, IsElsewhere, IsIdleEntry}
use Rattle.tree_specs.proofs.Tree.Numbered.{by_test, same-equal, same_owner-false}
use Rattle.tree_specs.proofs.Tree.Heirs.{heir-other}
use Rattle.tree_specs.specs.Tree.Inside.{total}
use Rattle.tree_specs.specs.Invariants.Measure.{count, mark_weight, weight, row_worth, waiting_cost, top_cost, cost, below_wants, pending}
use Rattle.tree_specs.proofs.Tree.Rows.{total-without, total-placed, total-changed, total-length, count-length}
use Rattle.tree_specs.proofs.Invariants.Waiters.{ForParting, Waiter, ForFree, ForChild, ForClear, ForRelease, waiter, ForEntry}
use Rattle.tree_specs.proofs.Invariants.Changes.{dying-row, running-row, claim-here, owned-row, heir-placed}
use Rattle.tree_specs.proofs.Turns.Lowering.{Room, Lowers, done-lower, ending-lower, length-changed, length-without, total-kept, marked-weight, removed-weight, live-weight}
use Rattle.tree_specs.proofs.Invariants.KeptFrees.{elsewhere}

-- what is told of it makes no difference
pub announced-lower : (R b : ℕ) (o : Option Event) (g : FreeFrame) (q : Pool) (fs : List Frame) (k : ℕ) → Room R (frame.Free g) q k × (cost R (frame.Free g) fs q k < b) → Lowers R b (announced o g q) fs k
announced-lower R b None g q fs k l = l
announced-lower R b (Some e) g q fs k l = l

-- it leaves its owner
leaving-lower : (R : ℕ) (x : Obj) (h : ℕ) (fs : List Frame) (p : Pool) (k : ℕ) → Sound (frame.Free (Leaving x h)) fs p → Room R (frame.Free (Leaving x h)) p k
    → Lowers R (cost R (frame.Free (Leaving x h)) fs p k) (step (frame.Free (Leaving x h)) p) fs k
leaving-lower R x h fs p k s room = by-row s.rests.0 s.rests.1 s.rests.2
  where
    by-row : (r : Row) → row_of p.rows x ≡ Some r → IsLive r.mark → Lowers R (cost R (frame.Free (Leaving x h)) fs p k) (step (frame.Free (Leaving x h)) p) fs k
    by-row r e l =
        let w : total (weight p.requests) p.rows ≡ total (weight p.requests) (changed left_row p.rows x) + 1 = omega (arith, total-changed (weight p.requests) left_row p.rows x r e, live-weight r.mark l) in
        let n = length-changed left_row p.rows x in
        let c = count-length (changed left_row p.rows x) (Of x) in
        let u = ap (λ (z : ℕ). row_worth R * z) w in
        announced-lower R _ _ (Looping x (Removal h)) (detach p x) fs k (omega (arith, n), omega (arith, u, n, c))

-- the children of the loop below are no more than there can be rows
pub kids-most : (R : ℕ) (rows : List Row) (fs : List Frame) → length rows ≤ R → below_wants rows fs ≤ 4 * R + 4
kids-most R rows [] h = omega arith
kids-most R rows (frame.Free (FreeingChild y c noted purpose) ∷ fs) h = let n = count-length rows (Of y) in omega arith
kids-most R rows (frame.Request (request.Dropping q e) ∷ fs) h = omega arith
kids-most R rows (_ ∷ fs) h = omega arith

-- a reference that is gone pays for what comes next
dropped-lower : (R : ℕ) (f g : FreeFrame) (fs : List Frame) (p : Pool) (k : ℕ) (r t : Obj) → Sound (frame.Free f) fs p → target_at p.rows r ≡ Some t → Room R (frame.Free f) p k
    → (length (without p.rows r) ≤ R → top_cost R (frame.Free g) fs (without p.rows r) ≤ 4 * R + 13)
    → Room R (frame.Free g) (remove p r) k × (cost R (frame.Free g) fs (remove p r) k < cost R (frame.Free f) fs p k)
dropped-lower R f g fs p k r t s is room most = by-row (row_of p.rows r) refl (s.refers.quiet r t is)
  where
    by-row : (q : Option Row) → row_of p.rows r ≡ q → IsQuietRow q → Room R (frame.Free g) (remove p r) k × (cost R (frame.Free g) fs (remove p r) k < cost R (frame.Free f) fs p k)
    by-row None e quiet = absurd quiet
    by-row (Some row) e quiet =
        let w : total (weight (without_note p.requests r)) (without p.rows r) + 2 ≤ total (weight p.requests) p.rows = removed-weight p r row 2 e (ap mark_weight quiet) in
        let u = mul-le-mul_left (row_worth R) w in
        let n = length-without p.rows r row e in
        let m = most (omega (arith, n)) in
        (omega (arith, n), omega (arith, u, m))

looping-lower : (R : ℕ) (x : Obj) (purpose : Purpose) (fs : List Frame) (p : Pool) (k : ℕ) → Sound (frame.Free (Looping x purpose)) fs p → Room R (frame.Free (Looping x purpose)) p k
    → Lowers R (cost R (frame.Free (Looping x purpose)) fs p k) (step (frame.Free (Looping x purpose)) p) fs k
looping-lower R x purpose fs p k s most = each (first_kid p.rows (Of x)) refl
  where
    gone : (h : ℕ) (r : Row) → row_of p.rows x ≡ Some r → (former : Owner) → r.mark ≡ Dying former
        → Room R (frame.Free (Ending Ok)) (remove p x) k × (cost R (frame.Free (Ending Ok)) fs (remove p x) k < cost R (frame.Free (Looping x (Removal h))) fs p k)
    gone h r e former m =
        let w : total (weight (without_note p.requests x)) (without p.rows x) + 1 ≤ total (weight p.requests) p.rows = removed-weight p x r 1 e (ap mark_weight m) in
        let u = mul-le-mul_left (row_worth R) w in
        let n = length-without p.rows x r e in
        (omega (arith, n), omega (arith, u))

    -- a call or a turn is what waits for a loop that only empties
    called : (g : Frame) (gs : List Frame) → Stands Emptying (footing (g ∷ gs)) → top_cost R (resume g (Freed Ok)) gs p.rows < waiting_cost g + (4 * count p.rows (Of x) + 7)
    called (frame.Call (Awaiting q y)) gs c = omega arith
    called (frame.Turn (Clearing y)) gs c = omega arith
    called (frame.Turn (Parting y v)) gs c = omega arith
    called (frame.Request (request.Releasing y)) gs c = omega arith
    called _ gs c = absurd c

    last : (purpose : Purpose) → Sound (frame.Free (Looping x purpose)) fs p → Lowers R (cost R (frame.Free (Looping x purpose)) fs p k) (lifted p.ring (last_step x purpose p)) fs k
    last (Removal h) s =
        let row = dying-row (row_of p.rows x) (claims x fs) (claim-here x InLoop (claims x fs) (row_of p.rows x) (s.open_frees x)) in
        gone h row.0 row.1 row.2 row.3
    last Emptying s = done-lower R (Freed Ok) (frame.Free (Looping x Emptying)) fs p k s.waiting (omega arith)
        (λ g gs e w. let l = called g gs (subst (λ (l : List Frame). Stands Emptying (footing l)) e s.rests) in omega (arith, l))

    child : (c : Obj) (o : Option Obj) → target_at p.rows c ≡ o → Lowers R (cost R (frame.Free (Looping x purpose)) fs p k) (lifted p.ring (child_step x c purpose (target_at p.rows c) p)) fs k
    child c None e = rw e (omega arith, omega arith)
    child c (Some t) e = rw e (dropped-lower R (Looping x purpose) (Looping x purpose) fs p k c t s e most (λ h. let n = count-length (without p.rows c) (Of x) in omega (arith, n)))

    each : (o : Option Obj) → first_kid p.rows (Of x) ≡ o → Lowers R (cost R (frame.Free (Looping x purpose)) fs p k) (lifted p.ring (loop_step x purpose (first_kid p.rows (Of x)) p)) fs k
    each (Some c) e = rw e (child c (target_at p.rows c) refl)
    each None e = rw e (last purpose s)

pub length-placed : (p : Pool) (o : Owner) (x : Obj) (r : Row) → row_of p.rows x ≡ Some r → length (place p o x).rows ≡ length p.rows
length-placed p o x r e = omega (arith, total-placed (λ q. 1) p o x r e refl, total-length p.rows, total-length (place p o x).rows)

-- a child that goes to its heir is one child fewer, where that is another object, and none more
handed-count : (x c : Obj) (noted : Option Owner) (f : Frame) (fs : List Frame) (p : Pool) → Sound f fs p → is_below (owner_of p.rows c) (Of x) ≡ true → noted ≢ Some (Of x)
    → count p.rows (Of x) ≡ count (place p (heir p.rows x c noted) c).rows (Of x) + 1
handed-count x c noted f fs p s below not_noted =
    let may = heir-placed x c noted f fs p s below in
    let r : Row = may.row in
    let was : is_below r.owner (Of x) ≡ true = rw may.is at below in
    let w = total-without (λ q. if is_below q.owner (Of x) then 1 else 0) p.rows c r may.is in
    let other : same_owner (heir p.rows x c noted) (Of x) ≡ false = same_owner-false _ _ (heir-other p.rows p.next x c noted (s.valid x) not_noted) in
    rw (may.is, other) (let w' = rw was at w in omega (arith, w'))

handed-most : (x c : Obj) (noted : Option Owner) (f : Frame) (fs : List Frame) (p : Pool) → Sound f fs p → is_below (owner_of p.rows c) (Of x) ≡ true
    → count (place p (heir p.rows x c noted) c).rows (Of x) ≤ count p.rows (Of x)
handed-most x c noted f fs p s below =
    let may = heir-placed x c noted f fs p s below in
    let r : Row = may.row in
    let was : is_below r.owner (Of x) ≡ true = rw may.is at below in
    let w = total-without (λ q. if is_below q.owner (Of x) then 1 else 0) p.rows c r may.is in
    rw may.is (by_test (same_owner (heir p.rows x c noted) (Of x))
    (λ t. rw t (let w' = rw was at w in omega (arith, w')))
    (λ t. rw t (let w' = rw was at w in omega (arith, w'))))

tried-lower : (R : ℕ) (x c : Obj) (noted : Option Owner) (purpose : Purpose) (a : FreeReply) (fs : List Frame) (p : Pool) (k : ℕ) → Sound (frame.Free (AfterChild x c noted purpose a)) fs p
    → Room R (frame.Free (AfterChild x c noted purpose a)) p k → Lowers R (cost R (frame.Free (AfterChild x c noted purpose a)) fs p k) (step (frame.Free (AfterChild x c noted purpose a)) p) fs k
tried-lower R x c noted purpose a fs p k s room = each a s
  where
    moved : (b : FreeReply) → Sound (frame.Free (AfterChild x c noted purpose b)) fs p → is_below (owner_of p.rows c) (Of x) ≡ true
        → (4 * count (place p (heir p.rows x c noted) c).rows (Of x) + 7 < 4 * count p.rows (Of x) + tried_cost b)
        → Room R (frame.Free (Looping x purpose)) (place p (heir p.rows x c noted) c) k × (cost R (frame.Free (Looping x purpose)) fs (place p (heir p.rows x c noted) c) k < cost R (frame.Free (AfterChild x c noted purpose b)) fs p k)
    moved b s below cheaper =
        let may = heir-placed x c noted _ fs p s below in
        let n = length-placed p (heir p.rows x c noted) c may.row may.is in
        let u = ap (λ (z : ℕ). row_worth R * z) (total-placed (weight p.requests) p (heir p.rows x c noted) c may.row may.is refl) in
        (omega (arith, n), omega (arith, u, cheaper))

    handed : (b : FreeReply) → tried_cost b ≡ 8 → Sound (frame.Free (AfterChild x c noted purpose b)) fs p → Lowers R (cost R (frame.Free (AfterChild x c noted purpose b)) fs p k) (lifted p.ring (hand_on_step x c noted purpose p)) fs k
    handed b e s = by_test (is_below (owner_of p.rows c) (Of x))
        (λ t. rw t (moved b s t (let m = handed-most x c noted _ fs p s t in omega (arith, m, e))))
        (λ t. rw t (omega arith, omega (arith, e)))

    each : (b : FreeReply) → Sound (frame.Free (AfterChild x c noted purpose b)) fs p → Lowers R (cost R (frame.Free (AfterChild x c noted purpose b)) fs p k) (step (frame.Free (AfterChild x c noted purpose b)) p) fs k
    each Ok s = (omega arith, omega arith)
    each Held s = handed Held refl s
    each Running s = by_test (is_below (owner_of p.rows c) (Of x))
        (λ t. rw t (moved Running s t (let m = handed-count x c noted _ fs p s t s.rests.0.1 in omega (arith, m))))
        (λ t. let there : same_owner (Of x) (Of x) ≡ false = rw s.rests.0.0 at t in let self = same-equal x x refl in let bad : true ≡ false = sym self ∙ there in cc)
    each (Refused v) s = handed (Refused v) refl s

-- a freeing that ends at once is no loop's child, or is said to run
at_once-lower : (R : ℕ) (a : FreeReply) (x : Obj) (f : FreeFrame) (fs : List Frame) (p : Pool) (k : ℕ) → (a ≡ Running) ⊎ ((o : Owner) → owner_of p.rows x ≢ Some o) → Tries x (footing fs) p
    → AllWait fs → IsElsewhere (footing fs)
    → below_wants p.rows fs + 1 ≤ top_cost R (frame.Free f) fs p.rows → Room R (frame.Free f) p k → Lowers R (cost R (frame.Free f) fs p k) (Do.Done (Freed a) p) fs k
at_once-lower R a x f [] p k h t w other most room = tt
at_once-lower R a x f (g ∷ gs) p k h t w other most room = below g (waiter g gs w.0) t other most
  where
    runs : (y c : Obj) (noted : Option Owner) (purpose : Purpose) (a : FreeReply) → a ≡ Running
        → 4 + 4 * count p.rows (Of y) + 1 ≤ top_cost R (frame.Free f) (frame.Free (FreeingChild y c noted purpose) ∷ gs) p.rows
        → Room R (frame.Free (AfterChild y c noted purpose a)) p k × (cost R (frame.Free (AfterChild y c noted purpose a)) gs p k < cost R (frame.Free f) (frame.Free (FreeingChild y c noted purpose) ∷ gs) p k)
    runs y c noted purpose Running is most = (omega arith, omega (arith, most))
    runs y c noted purpose _ is most = cc

    below : (g : Frame) → Waiter g → Tries x (footing (g ∷ gs)) p → IsElsewhere (footing (g ∷ gs)) → below_wants p.rows (g ∷ gs) + 1 ≤ top_cost R (frame.Free f) (g ∷ gs) p.rows
        → Lowers R (cost R (frame.Free f) (g ∷ gs) p k) (Do.Done (Freed a) p) (g ∷ gs) k
    below _ (ForFree q y) t other most = (omega arith, omega (arith, most))
    below _ (ForClear y) t other most = (omega arith, omega (arith, most))
    below _ (ForParting y v) t other most = (omega arith, omega (arith, most))
    below _ (ForRelease y) t other most = (omega arith, omega (arith, most))
    below _ (ForEntry q y) t other most = absurd other
    below _ (ForChild y c noted purpose) t other most = elim h [
      | inl is ↦ runs y c noted purpose a is most
      | inr none ↦ absurd (none (Of y) t.1)
    ]
    below _ _ t other most = absurd t

-- the work below pays for what begins, but where an entry is freed
wants-most : (p : Pool) (x : Obj) (fs : List Frame) → Tries x (footing fs) p → (4 ≤ below_wants p.rows fs) ⊎ IsIdleEntry (row_of p.rows x)
wants-most p x [] t = inl (omega arith)
wants-most p x (frame.Free (FreeingChild y c noted purpose) ∷ gs) t = inl (omega arith)
wants-most p x (frame.Request (request.Dropping q e) ∷ gs) t = inr t.1
wants-most p x (_ ∷ gs) t = inl (omega arith)

entry-else : (k : Kind) → is_entry k ≡ true → (is_request k ≡ false) × (is_queue k ≡ false)
entry-else kind.Entry e = (refl, refl)
entry-else _ e = cc

-- an event that is to be freed after its handler is said to run
dooming-lower : (R : ℕ) (x : Obj) (fs : List Frame) (p : Pool) (k : ℕ) → Sound (frame.Free (Dooming x)) fs p → Room R (frame.Free (Dooming x)) p k
    → Lowers R (cost R (frame.Free (Dooming x)) fs p k) (step (frame.Free (Dooming x)) p) fs k
dooming-lower R x fs p k s room = at_once-lower R Running x (Dooming x) fs p k (inl refl) s.rests.0 s.waiting s.rests.2 (omega arith) room

beginning-lower : (R : ℕ) (x : Obj) (fs : List Frame) (p : Pool) (k : ℕ) → Sound (frame.Free (Beginning x)) fs p → Room R (frame.Free (Beginning x)) p k
    → Lowers R (cost R (frame.Free (Beginning x)) fs p k) (step (frame.Free (Beginning x)) p) fs k
beginning-lower R x fs p k s room = newest (newest_ref p.rows x) refl
  where
    dead : (r : Row) (former : Owner) → r.mark ≡ Dying former → row_of p.rows x ≡ Some r → (o : Owner) → owner_of p.rows x ≢ Some o
    dead r former m e o q =
        let w = owned-row p x o s.valid q in
        let d : Some w.0 ≡ Some r = sym w.1 ∙ e in
        let d' : w.0 ≡ r = cc in
        let l : IsLive r.mark = subst (λ (z : Row). IsLive z.mark) d' w.2 in
        let bad : IsLive (Dying former) = rw m at l in bad

    over : (IsIdleEntry (row_of p.rows x) → ⊥) → ((o : Owner) → owner_of p.rows x ≢ Some o) → Lowers R (cost R (frame.Free (Beginning x)) fs p k) (Do.Done (Freed Ok) p) fs k
    over goes none = at_once-lower R Ok x (Beginning x) fs p k (inr none) s.rests.0 s.waiting (elsewhere x (footing fs) p s.rests.0 goes) (omega arith) room

    runs : (IsIdleEntry (row_of p.rows x) → ⊥) → Lowers R (cost R (frame.Free (Beginning x)) fs p k) (Do.Done (Freed Running) p) fs k
    runs goes = at_once-lower R Running x (Beginning x) fs p k (inl refl) s.rests.0 s.waiting (elsewhere x (footing fs) p s.rests.0 goes) (omega arith) room

    -- something goes on with it
    not-idle : (r : Row) → row_of p.rows x ≡ Some r → r.mark ≢ Quiet → IsIdleEntry (row_of p.rows x) → ⊥
    not-idle r e ne h = let h' : IsIdleEntry (Some r) = rw e at h in ne h'.1

    -- where an object is asked, or prepared, the work below pays for it
    begins : (g : FreeFrame) (r : Row) → row_of p.rows x ≡ Some r → r.mark ≡ Quiet → (IsIdleEntry (Some r) → ⊥) → pending (frame.Free g) ≡ 0 → top_cost R (frame.Free g) fs (set_mark p x Asked).rows ≤ 5
        → Room R (frame.Free g) (set_mark p x Asked) k × (cost R (frame.Free g) fs (set_mark p x Asked) k < cost R (frame.Free (Beginning x)) fs p k)
    begins g r e m goes none cheap =
        let u = ap (λ (z : ℕ). row_worth R * z) (total-kept (weight p.requests) (marked_row Asked) p.rows x r e (marked-weight p.requests Asked r (sym (ap mark_weight m)))) in
        let n = length-changed (marked_row Asked) p.rows x in
        elim (wants-most p x fs s.rests.0) [
          | inl l ↦ (omega (arith, n, none), omega (arith, u, l, cheap))
          | inr idle ↦ absurd (goes (rw e at idle))
        ]

    dooms : (r : Row) → row_of p.rows x ≡ Some r → r.mark ≡ Busy → Lowers R (cost R (frame.Free (Beginning x)) fs p k) (announced (closed_event (closes_with p.ring x)) (Dooming x) (doom p x)) fs k
    dooms r e m =
        let u = ap (λ (z : ℕ). row_worth R * z) (total-kept (weight p.requests) (marked_row Doomed) p.rows x r e (marked-weight p.requests Doomed r (sym (ap mark_weight m)))) in
        announced-lower R _ _ (Dooming x) (doom p x) fs k (omega (arith, length-changed (marked_row Doomed) p.rows x), omega (arith, u, kids fs))
      where
        kids : (fs : List Frame) → below_wants (doom p x).rows fs ≡ below_wants p.rows fs
        kids [] = refl
        kids (frame.Free (FreeingChild y c noted purpose) ∷ fs) = ap (λ (z : ℕ). 4 + 4 * z) (total-kept (λ q. if is_below q.owner (Of y) then 1 else 0) (marked_row Doomed) p.rows x r e refl)
        kids (_ ∷ fs) = refl

    plain : (r : Row) → row_of p.rows x ≡ Some r → r.mark ≡ Quiet → Lowers R (cost R (frame.Free (Beginning x)) fs p k) (lifted p.ring (begin_plain x r.hook p)) fs k
    plain r e m = by_test (nat_eq r.hook 0)
        (λ t. rw t (omega arith, omega arith))
        (λ t. rw t (begins (Hooked x r.hook) r e m (λ h. let t' : nat_eq 0 0 ≡ false = subst (λ (z : ℕ). nat_eq z 0 ≡ false) h.2 t in cc) refl (omega arith)))

    quiet : (r : Row) → row_of p.rows x ≡ Some r → r.mark ≡ Quiet → Lowers R (cost R (frame.Free (Beginning x)) fs p k) (lifted p.ring (begin_quiet x r.kind r.hook p)) fs k
    quiet r e m = by_test (is_request r.kind)
        (λ t. rw t (begins (Preparing x) r e m (λ h. let bad : false ≡ true = sym (entry-else r.kind h.0).0 ∙ t in cc) refl (omega arith)))
        (λ t. by_test (is_queue r.kind)
        (λ v. rw (t, v) (begins (Draining x) r e m (λ h. let bad : false ≡ true = sym (entry-else r.kind h.0).1 ∙ v in cc) refl (omega arith)))
        (λ v. rw (t, v) (plain r e m)))

    marks : (r : Row) (m : Mark) → r.mark ≡ m → row_of p.rows x ≡ Some r → Lowers R (cost R (frame.Free (Beginning x)) fs p k) (lifted p.ring (begin_step x (row_of p.rows x) p)) fs k
    marks r Quiet m e = rw (e, m) (quiet r e m)
    marks r Asked m e = rw (e, m) (runs (not-idle r e (λ q. let bad : Asked ≡ Quiet = sym m ∙ q in cc)))
    marks r Busy m e = rw (e, m) (dooms r e m)
    marks r Doomed m e = rw (e, m) (runs (not-idle r e (λ q. let bad : Doomed ≡ Quiet = sym m ∙ q in cc)))
    marks r (Dying former) m e = rw (e, m) (over (not-idle r e (λ q. let bad : Dying former ≡ Quiet = sym m ∙ q in cc)) (dead r former m e))

    each : (o : Option Row) → row_of p.rows x ≡ o → Lowers R (cost R (frame.Free (Beginning x)) fs p k) (lifted p.ring (begin_step x (row_of p.rows x) p)) fs k
    each None e = rw e (over (λ h. let h' : IsIdleEntry None = rw e at h in h') (λ o q. let bad : None ≡ Some o = rw e at q in cc))
    each (Some r) e = marks r r.mark refl e

    newest : (o : Option Obj) → newest_ref p.rows x ≡ o → Lowers R (cost R (frame.Free (Beginning x)) fs p k) (lifted p.ring (refs_step x (newest_ref p.rows x) p)) fs k
    newest None e = rw e (each (row_of p.rows x) refl)
    newest (Some r) e =
        let w = newest-refers p.rows x r s.forest.distinct e in
        let is : target_at p.rows r ≡ Some x = rw w.1 w.2 in
        rw e (by_test (is_inside p.rows (Of r) (Of x))
        (λ t. rw t (dropped-lower R (Beginning x) (Beginning x) fs p k r x s is room (λ h. let m = kids-most R (without p.rows r) fs h in omega (arith, m))))
        (λ t. rw t (dropped-lower R (Beginning x) (Ending Held) fs p k r x s is room (λ h. omega arith))))

-- an owner gives an object up
unlinking-lower : (R : ℕ) (o : Owner) (x : Obj) (fs : List Frame) (p : Pool) (k : ℕ) → Sound (frame.Free (Unlinking o x)) fs p → Room R (frame.Free (Unlinking o x)) p k
    → Lowers R (cost R (frame.Free (Unlinking o x)) fs p k) (step (frame.Free (Unlinking o x)) p) fs k
unlinking-lower R o x fs p k s room = each (newest_ref_of p.rows o x) refl
  where
    each : (n : Option Obj) → newest_ref_of p.rows o x ≡ n → Lowers R (cost R (frame.Free (Unlinking o x)) fs p k) (lifted p.ring (unlink_step x (newest_ref_of p.rows o x) p)) fs k
    each None e = rw e (omega arith, omega arith)
    each (Some r) e =
        let w = newest-of-refers p.rows o x r s.forest.distinct e in
        rw e (dropped-lower R (Unlinking o x) (Ending Ok) fs p k r x s (rw w.1 w.2) room (λ h. omega arith))

releasing-lower : (R : ℕ) (x : Obj) (fs : List Frame) (p : Pool) (k : ℕ) → Sound (frame.Free (Releasing x)) fs p → Room R (frame.Free (Releasing x)) p k
    → Lowers R (cost R (frame.Free (Releasing x)) fs p k) (step (frame.Free (Releasing x)) p) fs k
releasing-lower R x fs p k s room = each (newest_ref p.rows x) refl
  where
    each : (n : Option Obj) → newest_ref p.rows x ≡ n → Lowers R (cost R (frame.Free (Releasing x)) fs p k) (lifted p.ring (release_step x (newest_ref p.rows x) p)) fs k
    each None e = rw e (omega arith, omega arith)
    each (Some r) e =
        let w = newest-refers p.rows x r s.forest.distinct e in
        let is : target_at p.rows r ≡ Some x = rw w.1 w.2 in
        rw e (by_test (is_inside p.rows (Of r) (Of x))
        (λ t. rw t (dropped-lower R (Releasing x) (Releasing x) fs p k r x s is room (λ h. let m = kids-most R (without p.rows r) fs h in omega (arith, m))))
        (λ t. rw t (dropped-lower R (Releasing x) (Giving x (unwrap_or (owner_of p.rows r) Root)) fs p k r x s is room (λ h. omega arith))))

giving-lower : (R : ℕ) (x : Obj) (o : Owner) (fs : List Frame) (p : Pool) (k : ℕ) → Sound (frame.Free (Giving x o)) fs p → Room R (frame.Free (Giving x o)) p k
    → Lowers R (cost R (frame.Free (Giving x o)) fs p k) (step (frame.Free (Giving x o)) p) fs k
giving-lower R x o fs p k s room =
    let n = length-placed p o x s.rests.row s.rests.is in
    let u = ap (λ (z : ℕ). row_worth R * z) (total-placed (weight p.requests) p o x s.rests.row s.rests.is refl) in
    (omega (arith, n), omega (arith, u))

judged-lower : (R : ℕ) (x : Obj) (h v : ℕ) (fs : List Frame) (p : Pool) (k : ℕ) → Sound (frame.Free (Judged x h v)) fs p → Room R (frame.Free (Judged x h v)) p k
    → Lowers R (cost R (frame.Free (Judged x h v)) fs p k) (step (frame.Free (Judged x h v)) p) fs k
judged-lower R x h v fs p k s room =
    let row = running-row (row_of p.rows x) (claims x fs) (claim-here x InRun (claims x fs) (row_of p.rows x) (s.open_frees x)) in
    by-row row.0 row.1 row.2
  where
    by-row : (r : Row) → row_of p.rows x ≡ Some r → IsLive r.mark → Lowers R (cost R (frame.Free (Judged x h v)) fs p k) (lifted p.ring (judge_step x h v p)) fs k
    by-row r e live = by_test (nat_eq v 0)
        (λ t. let u = ap (λ (z : ℕ). row_worth R * z) (total-kept (weight p.requests) (hooked_row 0) p.rows x r e refl) in
        let n = length-changed (hooked_row 0) p.rows x in rw t (omega (arith, n), omega (arith, u)))
        (λ t. let u = ap (λ (z : ℕ). row_worth R * z) (total-kept (weight p.requests) (marked_row Quiet) p.rows x r e (marked-weight p.requests Quiet r (sym (live-weight r.mark live)))) in
        let n = length-changed (marked_row Quiet) p.rows x in rw t (omega (arith, n), omega (arith, u)))

prepared-lower : (R : ℕ) (x : Obj) (fs : List Frame) (p : Pool) (k : ℕ) → Sound (frame.Free (Prepared x)) fs p → Room R (frame.Free (Prepared x)) p k
    → Lowers R (cost R (frame.Free (Prepared x)) fs p k) (step (frame.Free (Prepared x)) p) fs k
prepared-lower R x fs p k s room =
    let row = running-row (row_of p.rows x) (claims x fs) (claim-here x InRun (claims x fs) (row_of p.rows x) (s.open_frees x)) in
    let u = ap (λ (z : ℕ). row_worth R * z) (total-kept (weight p.requests) (marked_row Quiet) p.rows x row.0 row.1 (marked-weight p.requests Quiet row.0 (sym (live-weight row.0.mark row.2)))) in
    let n = length-changed (marked_row Quiet) p.rows x in
    (omega (arith, n), omega (arith, u))

pub free-lower : (R : ℕ) (f : FreeFrame) (fs : List Frame) (p : Pool) (k : ℕ) → Sound (frame.Free f) fs p → Room R (frame.Free f) p k → Lowers R (cost R (frame.Free f) fs p k) (step (frame.Free f) p) fs k
free-lower R (Unlinking o x) fs p k s room = unlinking-lower R o x fs p k s room
free-lower R (Releasing x) fs p k s room = releasing-lower R x fs p k s room
free-lower R (Giving x o) fs p k s room = giving-lower R x o fs p k s room
free-lower R (Beginning x) fs p k s room = beginning-lower R x fs p k s room
free-lower R (Judged x h v) fs p k s room = judged-lower R x h v fs p k s room
free-lower R (Dooming x) fs p k s room = dooming-lower R x fs p k s room
free-lower R (Leaving x h) fs p k s room = leaving-lower R x h fs p k s room
free-lower R (Looping x purpose) fs p k s room = looping-lower R x purpose fs p k s room
free-lower R (AfterChild x c noted purpose a) fs p k s room = tried-lower R x c noted purpose a fs p k s room
free-lower R (Ending answer) fs p k s room = ending-lower R answer fs p k s room
free-lower R (Hooked x h) fs p k s room = (omega arith, omega arith)
free-lower R (Preparing x) fs p k s room = (omega arith, omega arith)
free-lower R (Draining x) fs p k s room = (omega arith, omega arith)
free-lower R (Prepared x) fs p k s room = prepared-lower R x fs p k s room
free-lower R _ fs p k s room = absurd s.rests
