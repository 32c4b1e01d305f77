-- What each step of a free keeps of what holds at every moment.
use Rattle.std.proofs.Common.{◌≡◌, ◌≢◌, ℕ, suc, zero, List, [], ◌∷◌, Option, Some, None, true, false, nat_eq, refl, sym, ◌∙◌, ap, subst, inl, inr}
use Rattle.std.specs.Prelude.{unwrap_or, ◌||◌}
use Rattle.step_machine.specs.Machine.{Move, Move as Do}
use Rattle.step_machine.proofs.Ends.{Leads}
use Rattle.tree_specs.specs.Machine.Profiles.{InRun, InLoop}
use Rattle.tree_specs.specs.declared.object.Obj.{Obj}
use Rattle.tree_specs.specs.declared.object.Owner.{Owner}
use Rattle.tree_specs.specs.declared.object.Owner.TheVariants.{Root, Of}
use Rattle.tree_specs.specs.declared.row.Row.{Row}
use Rattle.tree_specs.specs.declared.row.Mark.{Mark}
use Rattle.tree_specs.specs.declared.row.Mark.TheVariants.{Quiet, Asked, Busy, Doomed, Dying}
use Rattle.tree_specs.specs.declared.question.Ask.{Ask}
use Rattle.tree_specs.specs.declared.question.Ask.TheVariants.{Routine}
use Rattle.tree_specs.specs.declared.frame.Frame.{Frame}
use Rattle.tree_specs.specs.declared.frame.Frame.TheVariants as frame
use Rattle.tree_specs.specs.declared.frame.CallFrame.TheVariants.{Asking, Doing, Awaiting, Turning, Requesting, Returning}
use Rattle.tree_specs.specs.declared.frame.TurnFrame.TheVariants.{Parting, Handling, Clearing, Serving}
use Rattle.tree_specs.specs.declared.frame.RequestFrame.{RequestFrame}
use Rattle.tree_specs.specs.declared.frame.RequestFrame.TheVariants as request
use Rattle.tree_specs.specs.declared.moment.What.{What}
use Rattle.tree_specs.specs.declared.moment.What.TheVariants as whats
use Rattle.tree_specs.specs.Calls.Refusals.{is_request, is_queue}
use Rattle.tree_specs.specs.Rules.Errands.{after_routine}
use Rattle.tree_specs.specs.declared.frame.FreeFrame.{FreeFrame}
use Rattle.tree_specs.specs.declared.frame.FreeFrame.TheVariants.{Beginning, Hooked, Judged, Preparing, Draining, Dooming, Leaving, Looping, FreeingChild, AfterChild, Ending}
use Rattle.tree_specs.specs.declared.frame.Purpose.{Purpose}
use Rattle.tree_specs.specs.declared.frame.Purpose.TheVariants.{Removal, Emptying}
use Rattle.tree_specs.specs.declared.frame.Answer.{Answer}
use Rattle.tree_specs.specs.declared.frame.Answer.TheVariants.{Freed}
use Rattle.tree_specs.specs.declared.free_step.FreeReply.{FreeReply}
use Rattle.tree_specs.specs.declared.free_step.FreeReply.TheVariants.{Ok, Held, Running, Refused}
use Rattle.tree_specs.specs.Words.Objects.{same}
use Rattle.tree_specs.specs.Events.Rotation.{closes_with}
use Rattle.tree_specs.specs.Tree.Pool.{Pool, row_of, target_in, target_at, owner_in, owner_at, noted_owner, is_below, owner_of, is_inside, first_kid, without, changed, remove, detach, left_row, set_mark, doom, marked_row, hooked_row}
use Rattle.tree_specs.specs.Rules.Items.{Item}
use Rattle.tree_specs.specs.Rules.Answers.{hook_moment}
use Rattle.tree_specs.specs.Machine.FreeTable.{begin_quiet, begin_step, drop_step, refs_step, judge_step, last_step, child_step, loop_step, hand_on_step}
use Rattle.tree_specs.specs.Machine.Table.{table, step, closed_event, announced, lifted, reply_in, resume}
use Rattle.tree_specs.specs.Tree.Heirs.{heir}
use Rattle.tree_specs.specs.Invariants.Sound.{is_at_turn_mark, Owned, Shaped, ValidAt, phase_of, phases, claim_if, claim, claims, Rests, IsLive, IsReferable, NotedFor, Tries, StillThere, IsOver, MayAnswer, RequestRests, Sound, Footing, footing, IsIdleEntry, IsRequested, IsPrepared, IsElsewhere}
use Rattle.tree_specs.specs.Invariants.Sound.Footing.{OnCall, OnFree, AtBottom, OnDropping, OnRequesting}
use Rattle.tree_specs.proofs.Tree.Numbered.{by_test, same-equal, same-false}
use Rattle.tree_specs.proofs.Tree.Rows.{row_of-changed-other, row_of-changed-same, row_of-without-other, row_of-without-same, first_kid-owner}
use Rattle.tree_specs.proofs.Tree.Rooted.{forest-left, forest-without}
use Rattle.tree_specs.proofs.Tree.Referring.{newest-refers, none-refers, newest-changed, refers-at, refers-nothing}
use Rattle.tree_specs.proofs.Tree.Ancestry.{inside-owner, inside-not_back}
use Rattle.tree_specs.specs.Tree.Forest.{IsForest}
use Rattle.tree_specs.specs.Tree.Targets.{target_of, newest_ref}
use Rattle.tree_specs.proofs.Invariants.Waiters.{ForParting, Waiter, ForFree, ForRun, ForChild, ForTurn, ForHandler, ForClear, ForRequest, ForServed, ForReceived, ForDrained, ForRoutine, ForRelease, ForEntry, waiter}
use Rattle.tree_specs.proofs.Calls.Checks.{Heard, HeardCall, HeardReturn, heard-leads}
use Rattle.tree_specs.proofs.Invariants.Changes.{turned-at, no-turn-row, run-refers, run-unreferred, dropped-sound, dying-row, running-row, claim-here, positive, not-zero, stands, goes_on, waiting-sound, changed-sound, shape-of, live-owned, marks-place, hooks-place, unmarked-sound, valid-at, frees-at, placed-sound, heir-placed}

-- what a step leads to is sound
abbrev pub KeptBy : Move Frame Answer Pool Item → List Frame → ℕ → Type 0
KeptBy m fs k = Leads table (λ g gs q j. Sound g gs q) m fs k

pub asking : (q : Ask) (fs : List Frame) (p : Pool) (k : ℕ) → Sound (frame.Call (Asking q)) fs p → KeptBy (step (frame.Call (Asking q)) p) fs k
asking q fs p zero s = tt
asking q fs p (suc k) s = λ i g e. leads g (heard-leads q i g e)
  where
    leads : (g : Frame) → Heard q g → Sound g fs p
    leads _ (HeardCall c) = goes_on (frame.Call (Asking q)) (frame.Call (Doing q c)) fs p (λ x. refl) tt s
    leads _ (HeardReturn v of) = goes_on (frame.Call (Asking q)) (frame.Call (Returning v)) fs p (λ x. refl) tt s

-- what is a request's may end
pub prepared-on : (on : Footing) → IsRequested on → IsPrepared on
prepared-on OnRequesting h = tt
prepared-on (OnFree (Preparing x)) h = tt
prepared-on _ h = absurd h

-- what the work of a request rests on after a routine
after_rests : (w : What) (f g h : RequestFrame) (on : Footing) (p : Pool) → RequestRests f on p → RequestRests g on p → RequestRests h on p → RequestRests (after_routine w f g h) on p
after_rests whats.Cleanup f g h on p a b c = a
after_rests whats.Cancel f g h on p a b c = b
after_rests _ f g h on p a b c = c

-- a work that ends leaves the work below it sound
pub ended : (a : Answer) (f : Frame) (fs : List Frame) (p : Pool) (k : ℕ) → Sound f fs p → ((x : Obj) → claim x f ≡ [])
    → ((x c : Obj) (noted : Option Owner) (purpose : Purpose) (gs : List Frame) → fs ≡ frame.Free (FreeingChild x c noted purpose) ∷ gs → StillThere (reply_in a) x c noted p) → KeptBy (Do.Done a p) fs k
ended a f [] p k s none there = tt
ended a f (g ∷ gs) p k s none there = below g (waiter g gs s.waiting.0) s there
  where
    below : (g : Frame) → Waiter g → Sound f (g ∷ gs) p
        → ((x c : Obj) (noted : Option Owner) (purpose : Purpose) (hs : List Frame) → g ∷ gs ≡ frame.Free (FreeingChild x c noted purpose) ∷ hs → StillThere (reply_in a) x c noted p) → Sound (resume g a) gs p
    below _ (ForFree q x) s there = stands f _ (frame.Call (Awaiting q x) ∷ gs) gs p (λ y. rw (none y) refl) s.waiting.1 tt s
    below _ (ForRun x h) s there = stands f _ (frame.Free (Hooked x h) ∷ gs) gs p (λ y. rw (none y) refl) s.waiting.1 s.waiting.0 s
    below _ (ForTurn q) s there = stands f _ (frame.Call (Turning q) ∷ gs) gs p (λ y. rw (none y) refl) s.waiting.1 tt s
    below _ (ForHandler what x handler occasion) s there = stands f _ (frame.Turn (Handling what x handler occasion) ∷ gs) gs p (λ y. rw (none y) refl) s.waiting.1 s.waiting.0 s
    below _ (ForClear x) s there = stands f _ (frame.Turn (Clearing x) ∷ gs) gs p (λ y. rw (none y) refl) s.waiting.1 s.waiting.0 s
    below _ (ForParting c v) s there = stands f _ (frame.Turn (Parting c v) ∷ gs) gs p (λ y. rw (none y) refl) s.waiting.1 s.waiting.0 s
    below _ (ForRequest q) s there = stands f _ (frame.Call (Requesting q) ∷ gs) gs p (λ y. rw (none y) refl) s.waiting.1 tt s
    below _ (ForServed x) s there = stands f _ (frame.Turn (Serving x) ∷ gs) gs p (λ y. rw (none y) refl) s.waiting.1 s.waiting.0 s
    below _ (ForReceived x) s there = stands f _ (frame.Free (Preparing x) ∷ gs) gs p (λ y. rw (none y) refl) s.waiting.1 tt s
    below _ (ForDrained x) s there = stands f _ (frame.Free (Draining x) ∷ gs) gs p (λ y. rw (none y) refl) s.waiting.1 tt s
    below _ (ForEntry q e) s there = stands f _ (frame.Request (request.Dropping q e) ∷ gs) gs p (λ y. rw (none y) refl) s.waiting.1 s.waiting.0 s
    below _ (ForRoutine what x handler errand) s there =
        stands f _ (frame.Request (request.Called what x handler errand) ∷ gs) gs p (λ y. rw (none y) refl) s.waiting.1 (after_rests what (request.Cleaned x errand) _ _ (footing gs) p s.waiting.0 (prepared-on (footing gs) s.waiting.0) (prepared-on (footing gs) s.waiting.0)) s
    below _ (ForRelease c) s there = stands f _ (frame.Request (request.Releasing c) ∷ gs) gs p (λ y. rw (none y) refl) s.waiting.1 (prepared-on (footing gs) s.waiting.0) s
    below _ (ForChild x c noted purpose) s there = stands f _ (frame.Free (FreeingChild x c noted purpose) ∷ gs) gs p (λ y. rw (none y) refl) s.waiting.1 (there x c noted purpose gs refl, s.waiting.0) s

-- a child that isn't said to run need not be where it was
pub still-there : (a : FreeReply) (x c : Obj) (noted : Option Owner) (p : Pool) → IsOver a → StillThere a x c noted p
still-there Running x c noted p h = absurd h
still-there _ x c noted p h = tt

-- ---- freeing

-- a step that may tell that a descriptor was closed
closing : (o : Option ℕ) (f : FreeFrame) (fs : List Frame) (p : Pool) (k : ℕ) → Sound (frame.Free f) fs p → KeptBy (announced (closed_event o) f p) fs k
closing None f fs p k s = s
closing (Some fd) f fs p k s = s

pub leaving : (x : Obj) (h : ℕ) (fs : List Frame) (p : Pool) (k : ℕ) → Sound (frame.Free (Leaving x h)) fs p → KeptBy (step (frame.Free (Leaving x h)) p) fs k
leaving x h fs p k s =
    let self : same x x ≡ true = same-equal x x refl in
    let r : Row = s.rests.0 in
    let e : row_of p.rows x ≡ Some r = s.rests.1 in
    let v : ValidAt p.next (Some r) x = rw e at (s.valid x) in
    let none : claims x fs ≡ [] = s.rests.3 in
    let unreferred : newest_ref p.rows x ≡ None = s.rests.5 in
    let new : row_of (changed left_row p.rows x) x ≡ Some (left_row r) = row_of-changed-same left_row p.rows x r (λ q. refl) e in
    let other : (y : Obj) → x ≢ y → row_of (changed left_row p.rows x) y ≡ row_of p.rows y = (λ y ne. row_of-changed-other left_row p.rows x y (λ q. refl) ne) in
    closing (closes_with p.ring x) (Looping x (Removal h)) fs (detach p x) k (record {
      started = s.started;
      valid = valid-at p.next p.rows (changed left_row p.rows x) x s.valid other (rw new (v.0, v.1, left r.owner (live-owned r.mark r.owner x s.rests.2 v.2)));
      forest = forest-left p.rows x s.forest;
      refers = refers-at p.rows (changed left_row p.rows x) x other
          (λ t q. let q' : target_of r.kind ≡ Some t = rw new at q in let bad : None ≡ Some t = sym s.rests.4 ∙ q' in cc) (λ y q. absurd (none-refers p.rows x y unreferred q)) s.refers;
      open_frees = frees-at (frame.Free (Leaving x h)) (frame.Free (Looping x (Removal h))) fs fs p.rows (changed left_row p.rows x) x s.open_frees other
          (λ y ne. let u : same x y ≡ false = same-false x y ne in by_test (nat_eq h 0) (λ t. rw (t, u) refl) (λ t. rw (t, u) refl))
          (rw (self, none, new) refl);
      turned = turned-at p.turning p.rows (changed left_row p.rows x) x s.turned other (no-turn-row p.turning p.rows x r s.turned e s.rests.6);
      waiting = s.waiting;
      rests = tt;
    })
  where
    left : (o : Option Owner) → Owned o x → Shaped (Dying (unwrap_or o Root)) None x
    left (Some o) h = h
    left None h = absurd h

-- the last child is gone, and the object is removed
removed : (x : Obj) (h : ℕ) (fs : List Frame) (p : Pool) → first_kid p.rows (Of x) ≡ None → Sound (frame.Free (Looping x (Removal h))) fs p → Sound (frame.Free (Ending Ok)) fs (remove p x)
removed x h fs p alone s =
    let row = dying-row (row_of p.rows x) (claims x fs) (claim-here x InLoop (claims x fs) (row_of p.rows x) (s.open_frees x)) in
    let none : claims x fs ≡ [] = row.4 in
    let gone : row_of (without p.rows x) x ≡ None = row_of-without-same p.rows x s.forest.distinct in
    record {
      started = s.started;
      valid = valid-at p.next p.rows (without p.rows x) x s.valid (λ y ne. row_of-without-other p.rows x y ne) (rw gone tt);
      forest = forest-without p.rows x s.forest alone;
      refers = refers-at p.rows (without p.rows x) x (λ y ne. row_of-without-other p.rows x y ne) (λ t q. let bad : None ≡ Some t = rw gone at q in cc)
          (λ y q. absurd (let h : IsReferable (Some row.0) = rw row.1 at (s.refers.target y x q) in let bad : Dying row.2 ≡ Quiet = sym row.3 ∙ h.1 in cc)) s.refers;
      open_frees = frees-at (frame.Free (Looping x (Removal h))) (frame.Free (Ending Ok)) fs fs p.rows (without p.rows x) x s.open_frees (λ y ne. row_of-without-other p.rows x y ne)
          (λ y ne. let u : same x y ≡ false = same-false x y ne in rw u refl) (rw (none, gone) refl);
      turned = turned-at p.turning p.rows (without p.rows x) x s.turned (λ y ne. row_of-without-other p.rows x y ne) (no-turn-row p.turning p.rows x row.0 s.turned row.1 (ap is_at_turn_mark row.3));
      waiting = s.waiting;
      rests = (tt, tt);
    }

pub looping : (x : Obj) (purpose : Purpose) (fs : List Frame) (p : Pool) (k : ℕ) → Sound (frame.Free (Looping x purpose)) fs p → KeptBy (step (frame.Free (Looping x purpose)) p) fs k
looping x purpose fs p k s = each (first_kid p.rows (Of x)) refl
  where
    last : (purpose : Purpose) → first_kid p.rows (Of x) ≡ None → Sound (frame.Free (Looping x purpose)) fs p → KeptBy (lifted p.ring (last_step x purpose p)) fs k
    last (Removal h) e s = removed x h fs p e s
    last Emptying e s = ended (Freed Ok) (frame.Free (Looping x Emptying)) fs p k s (λ y. refl) (λ y c n b gs q. tt)

    each : (o : Option Obj) → first_kid p.rows (Of x) ≡ o → KeptBy (lifted p.ring (loop_step x purpose (first_kid p.rows (Of x)) p)) fs k
    each None e = rw e (last purpose e s)
    each (Some c) e = rw e (child (target_at p.rows c) refl)
      where
        child : (o : Option Obj) → target_at p.rows c ≡ o → KeptBy (lifted p.ring (child_step x c purpose (target_at p.rows c) p)) fs k
        child None t = rw t (stands (frame.Free (Looping x purpose)) (frame.Free (Beginning c)) fs (frame.Free (FreeingChild x c (noted_owner p.rows c) purpose) ∷ fs) p (λ y. refl) (s.rests, s.waiting)
            ((refl, first_kid-owner p.rows (Of x) c s.forest.distinct e, inl refl), t) s)
        child (Some target) t = rw t (dropped-sound (frame.Free (Looping x purpose)) (frame.Free (Looping x purpose)) fs p c target s t (λ y. refl) s.rests)

-- the freeing of a child is over
pub tried : (x c : Obj) (noted : Option Owner) (purpose : Purpose) (a : FreeReply) (fs : List Frame) (p : Pool) (k : ℕ) → Sound (frame.Free (AfterChild x c noted purpose a)) fs p
    → KeptBy (step (frame.Free (AfterChild x c noted purpose a)) p) fs k
tried x c noted purpose a fs p k s = each a s
  where
    handed : (b : FreeReply) → Sound (frame.Free (AfterChild x c noted purpose b)) fs p → KeptBy (lifted p.ring (hand_on_step x c noted purpose p)) fs k
    handed b s = by_test (is_below (owner_of p.rows c) (Of x))
        (λ t. rw t (placed-sound (frame.Free (AfterChild x c noted purpose b)) (frame.Free (Looping x purpose)) (heir p.rows x c noted) c fs p s (heir-placed x c noted _ fs p s t) (λ y. refl) s.rests.1))
        (λ t. rw t (goes_on (frame.Free (AfterChild x c noted purpose b)) (frame.Free (Looping x purpose)) fs p (λ y. refl) s.rests.1 s))

    each : (b : FreeReply) → Sound (frame.Free (AfterChild x c noted purpose b)) fs p → KeptBy (step (frame.Free (AfterChild x c noted purpose b)) p) fs k
    each Ok s = goes_on (frame.Free (AfterChild x c noted purpose Ok)) (frame.Free (Looping x purpose)) fs p (λ y. refl) s.rests.1 s
    each Held s = handed Held s
    each Running s = handed Running s
    each (Refused v) s = handed (Refused v) s

-- ---- the newest reference is dropped

-- an object whose freeing begins is not the reference that goes
pub apart : (p : Pool) (x r t : Obj) → target_at p.rows x ≡ None → target_at p.rows r ≡ Some t → r ≢ x
apart p x r t object is e = refers-nothing p.rows x t object (ap (target_at p.rows) (sym e) ∙ is)

-- the owner that was noted for a child is not x, where its newest reference was inside the child
noted-other : (x c r : Obj) (noted : Option Owner) (p : Pool) → IsForest p.rows → owner_of p.rows c ≡ Some (Of x) → newest_ref p.rows c ≡ Some r → r ≢ c → is_inside p.rows (Of r) (Of c) ≡ true
    → NotedFor x c noted p → noted ≢ Some (Of x)
noted-other x c r noted p f owner newest ne inside h = elim h [
  | inl is ↦ λ e.
      let at : owner_of p.rows r ≡ Some (Of x) = ap (owner_at p.rows) (sym newest) ∙ sym is ∙ e in
      let other : same r c ≡ false = same-false r c ne in
      let above : is_inside p.rows (Of x) (Of c) ≡ true = (let q : is_inside p.rows (Of r) (Of c) ≡ (same r c || is_inside p.rows (Of x) (Of c)) = inside-owner p.rows r (Of x) (Of c) at in
      let q' : is_inside p.rows (Of r) (Of c) ≡ is_inside p.rows (Of x) (Of c) = rw other at q in sym q' ∙ inside) in
      let bad : true ≡ false = sym above ∙ inside-not_back p.rows c x f.rooted owner in cc
  | inr other ↦ other
]

tries-dropped : (x r : Obj) (fs : List Frame) (p : Pool) → Sound (frame.Free (Beginning x)) fs p → newest_ref p.rows x ≡ Some r → r ≢ x → is_inside p.rows (Of r) (Of x) ≡ true → Tries x (footing fs) (remove p r)
tries-dropped x r [] p s newest ne inside = tt
tries-dropped x r (g ∷ gs) p s newest ne inside = below g (waiter g gs s.waiting.0) s.rests.0
  where
    below : (g : Frame) → Waiter g → Tries x (footing (g ∷ gs)) p → Tries x (footing (g ∷ gs)) (remove p r)
    below _ (ForFree q y) t = let bad : None ≡ Some r = sym t ∙ newest in cc
    below _ (ForClear y) t = let bad : None ≡ Some r = sym t ∙ newest in cc
    below _ (ForParting y v) t = let bad : None ≡ Some r = sym t ∙ newest in cc
    below _ (ForRelease y) t = let bad : None ≡ Some r = sym t ∙ newest in cc
    below _ (ForEntry q y) t = let bad : None ≡ Some r = sym t.0 ∙ newest in cc
    below _ (ForChild y c noted purpose) t =
        let same_row : row_of (without p.rows r) x ≡ row_of p.rows x = row_of-without-other p.rows r x ne in
        let n : NotedFor y x noted p = subst (λ (z : Obj). NotedFor y z noted p) refl t.2 in
        (t.0, ap owner_in same_row ∙ t.1, inr (noted-other y x r noted p s.forest t.1 newest ne inside n))
    below _ _ t = absurd t

may-hold : (x r : Obj) (fs : List Frame) (p : Pool) → Sound (frame.Free (Beginning x)) fs p → newest_ref p.rows x ≡ Some r → MayAnswer Held (footing fs)
may-hold x r [] p s newest = tt
may-hold x r (g ∷ gs) p s newest = below g (waiter g gs s.waiting.0) s.rests.0
  where
    below : (g : Frame) → Waiter g → Tries x (footing (g ∷ gs)) p → MayAnswer Held (footing (g ∷ gs))
    below _ (ForFree q y) t = let bad : None ≡ Some r = sym t ∙ newest in cc
    below _ (ForClear y) t = let bad : None ≡ Some r = sym t ∙ newest in cc
    below _ (ForParting y v) t = let bad : None ≡ Some r = sym t ∙ newest in cc
    below _ (ForRelease y) t = let bad : None ≡ Some r = sym t ∙ newest in cc
    below _ _ t = tt

drops : (x r : Obj) (fs : List Frame) (p : Pool) (k : ℕ) → Sound (frame.Free (Beginning x)) fs p → newest_ref p.rows x ≡ Some r → KeptBy (lifted p.ring (drop_step x r p)) fs k
drops x r fs p k s newest =
    let w = newest-refers p.rows x r s.forest.distinct newest in
    let is : target_at p.rows r ≡ Some x = rw w.1 w.2 in
    let ne : r ≢ x = apart p x r x s.rests.1 is in
    let stays : target_at (without p.rows r) x ≡ None = ap target_in (row_of-without-other p.rows r x ne) ∙ s.rests.1 in
    by_test (is_inside p.rows (Of r) (Of x))
    (λ t. rw t (dropped-sound (frame.Free (Beginning x)) (frame.Free (Beginning x)) fs p r x s is (λ y. refl) (tries-dropped x r fs p s newest ne t, stays)))
    (λ t. rw t (dropped-sound (frame.Free (Beginning x)) (frame.Free (Ending Held)) fs p r x s is (λ y. refl) (tt, may-hold x r fs p s newest)))

-- a child that is tried and is not referred to is where it was, and no reference of its owner's was noted
still : (x : Obj) (p : Pool) (fs : List Frame) → newest_ref p.rows x ≡ None → Tries x (footing fs) p
    → (y c : Obj) (noted : Option Owner) (purpose : Purpose) (gs : List Frame) → fs ≡ frame.Free (FreeingChild y c noted purpose) ∷ gs → StillThere Running y c noted p
still x p fs none t y c noted purpose gs e =
    let t' : (c ≡ x) × (owner_of p.rows x ≡ Some (Of y)) × NotedFor y x noted p = subst (λ (l : List Frame). Tries x (footing l) p) e t in
    (subst (λ (z : Obj). owner_of p.rows z ≡ Some (Of y)) (sym t'.0) t'.1, no-noted t'.2)
  where
    no-noted : NotedFor y x noted p → noted ≢ Some (Of y)
    no-noted h = elim h [
      | inl is ↦ λ e. (let bad : None ≡ Some (Of y) = sym (ap (owner_at p.rows) none) ∙ sym is ∙ e in cc)
      | inr other ↦ other
    ]

-- it is tried as before where it has the same owner
tries-same : (x : Obj) (on : Footing) (p q : Pool) → newest_ref p.rows x ≡ None → newest_ref q.rows x ≡ None → owner_of q.rows x ≡ owner_of p.rows x → (IsIdleEntry (row_of p.rows x) → IsIdleEntry (row_of q.rows x))
    → Tries x on p → Tries x on q
tries-same x (OnFree (FreeingChild y d noted purpose)) p q none none' o idle t = (
  t.0,
  o ∙ t.1,
  elim t.2 [
    | inl is ↦ inl (is ∙ ap (owner_at p.rows) none ∙ sym (ap (owner_at q.rows) none'))
    | inr other ↦ inr other
  ],
)
tries-same x OnCall p q none none' o idle t = none'
tries-same x OnDropping p q none none' o idle t = (none', idle t.1)
tries-same x AtBottom p q none none' o idle t = tt
tries-same x _ p q none none' o idle t = absurd t

-- what isn't an entry with which nothing goes on is freed elsewhere
pub elsewhere : (x : Obj) (on : Footing) (p : Pool) → Tries x on p → (IsIdleEntry (row_of p.rows x) → ⊥) → IsElsewhere on
elsewhere x OnDropping p t goes = goes t.1
elsewhere x _ p t goes = tt

-- an event that is to be freed after its handler is said to run
pub dooming : (x : Obj) (fs : List Frame) (p : Pool) (k : ℕ) → Sound (frame.Free (Dooming x)) fs p → KeptBy (step (frame.Free (Dooming x)) p) fs k
dooming x fs p k s = ended (Freed Running) (frame.Free (Dooming x)) fs p k s (λ y. refl) (still x p fs s.rests.1 s.rests.0)

pub beginning : (x : Obj) (fs : List Frame) (p : Pool) (k : ℕ) → Sound (frame.Free (Beginning x)) fs p → KeptBy (step (frame.Free (Beginning x)) p) fs k
beginning x fs p k s = newest (newest_ref p.rows x) refl
  where
    over : KeptBy (Do.Done (Freed Ok) p) fs k
    over = ended (Freed Ok) (frame.Free (Beginning x)) fs p k s (λ y. refl) (λ y c n b gs q. tt)

    runs : newest_ref p.rows x ≡ None → KeptBy (Do.Done (Freed Running) p) fs k
    runs none = ended (Freed Running) (frame.Free (Beginning x)) fs p k s (λ y. refl) (still x p fs none s.rests.0)

    object : (r : Row) → row_of p.rows x ≡ Some r → target_of r.kind ≡ None
    object r e = let t : target_in (Some r) ≡ None = rw e at s.rests.1 in t

    -- the claims on an event stay when it is doomed
    dooms : newest_ref p.rows x ≡ None → (r : Row) → row_of p.rows x ≡ Some r → r.mark ≡ Busy → KeptBy (announced (closed_event (closes_with p.ring x)) (Dooming x) (doom p x)) fs k
    dooms none r e m =
        let idle : IsIdleEntry (row_of p.rows x) → IsIdleEntry (row_of (doom p x).rows x) = (λ h. let h' : IsIdleEntry (Some r) = rw e at h in let bad : Busy ≡ Quiet = sym m ∙ h'.1 in cc) in
        let same_owner : owner_of (doom p x).rows x ≡ owner_of p.rows x = rw (e, row_of-changed-same (marked_row Doomed) p.rows x r (λ q. refl) e) refl in
        let unreferred : newest_ref (doom p x).rows x ≡ None = newest-changed (marked_row Doomed) p.rows x x (λ q. refl) (λ q. refl) ∙ none in
        let busy : IsIdleEntry (row_of p.rows x) → ⊥ = (λ h. let h' : IsIdleEntry (Some r) = rw e at h in let bad : Busy ≡ Quiet = sym m ∙ h'.1 in cc) in
        let rests : (q : Pool) → q.rows ≡ (doom p x).rows → Tries x (footing fs) q × (newest_ref q.rows x ≡ None) × IsElsewhere (footing fs) =
        (λ q is. (tries-same x (footing fs) p q none (rw is unreferred) (rw is same_owner) (λ h. rw is (idle h)) s.rests.0, rw is unreferred, elsewhere x (footing fs) p s.rests.0 busy)) in
        let t : Sound (frame.Free (Dooming x)) fs (set_mark p x Doomed) = changed-sound (marked_row Doomed) (frame.Free (Beginning x)) (frame.Free (Dooming x)) fs fs p x r s (marks-place Doomed) e
        (live-owned r.mark r.owner x (rw m tt) (shape-of p x r s.valid e)) (object r e) (inr none) (λ y ne. refl) (s.open_frees x ∙ ap phases e ∙ ap (phase_of r.kind) m) (λ z. refl) s.waiting (rests (set_mark p x Doomed) refl) in
        closing (closes_with p.ring x) (Dooming x) fs (doom p x) k (waiting-sound (frame.Free (Dooming x)) (frame.Free (Dooming x)) fs (set_mark p x Doomed) (doom p x) t refl refl refl (λ y. refl) (rests (doom p x) refl))

    -- an object that is asked, be it by its destructor or as a request
    asks : (g : FreeFrame) → newest_ref p.rows x ≡ None → (r : Row) → row_of p.rows x ≡ Some r → r.mark ≡ Quiet → ((y : Obj) → claim y (frame.Free g) ≡ claim_if (same x y) InRun)
        → Rests (frame.Free g) fs (set_mark p x Asked) → Sound (frame.Free g) fs (set_mark p x Asked)
    asks g unreferred r e m claims-it rests =
        let none : claims x fs ≡ [] = s.open_frees x ∙ ap phases e ∙ ap (phase_of r.kind) m in
        let self : same x x ≡ true = same-equal x x refl in
        changed-sound (marked_row Asked) (frame.Free (Beginning x)) (frame.Free g) fs fs p x r s (marks-place Asked) e
        (live-owned r.mark r.owner x (rw m tt) (shape-of p x r s.valid e)) (object r e) (inr unreferred)
        (λ y ne. let u : same x y ≡ false = same-false x y ne in rw (claims-it y, u) refl) (rw (claims-it x, self, none) refl) (no-turn-row p.turning p.rows x r s.turned e (rw m refl)) s.waiting rests

    quiet : newest_ref p.rows x ≡ None → (r : Row) → row_of p.rows x ≡ Some r → r.mark ≡ Quiet → KeptBy (lifted p.ring (begin_quiet x r.kind r.hook p)) fs k
    quiet unreferred r e m =
        let none : claims x fs ≡ [] = s.open_frees x ∙ ap phases e ∙ ap (phase_of r.kind) m in
        by_test (is_request r.kind)
        (λ u. rw u (asks (Preparing x) unreferred r e m (λ y. refl) (marked_row Asked r, row_of-changed-same (marked_row Asked) p.rows x r (λ q. refl) e)))
        (λ u. by_test (is_queue r.kind)
        (λ v. rw (u, v) (asks (Draining x) unreferred r e m (λ y. refl) (marked_row Asked r, row_of-changed-same (marked_row Asked) p.rows x r (λ q. refl) e)))
        (λ v. by_test (nat_eq r.hook 0)
        (λ t. rw (u, v, t) (goes_on (frame.Free (Beginning x)) (frame.Free (Leaving x 0)) fs p (λ y. refl) (r, e, rw m tt, none, object r e, unreferred, rw m refl) s))
        (λ t. rw (u, v, t) (asks (Hooked x r.hook) unreferred r e m (λ y. refl) (positive r.hook t, rw (row_of-changed-same (marked_row Asked) p.rows x r (λ q. refl) e) refl)))))

    marks : newest_ref p.rows x ≡ None → (r : Row) (m : Mark) → r.mark ≡ m → row_of p.rows x ≡ Some r → KeptBy (lifted p.ring (begin_step x (row_of p.rows x) p)) fs k
    marks none r Quiet m e = rw (e, m) (quiet none r e m)
    marks none r Asked m e = rw (e, m) (runs none)
    marks none r Busy m e = rw (e, m) (dooms none r e m)
    marks none r Doomed m e = rw (e, m) (runs none)
    marks none r (Dying former) m e = rw (e, m) over

    each : newest_ref p.rows x ≡ None → (o : Option Row) → row_of p.rows x ≡ o → KeptBy (lifted p.ring (begin_step x (row_of p.rows x) p)) fs k
    each none None e = rw e over
    each none (Some r) e = marks none r r.mark refl e

    newest : (o : Option Obj) → newest_ref p.rows x ≡ o → KeptBy (lifted p.ring (refs_step x (newest_ref p.rows x) p)) fs k
    newest None e = rw e (each e (row_of p.rows x) refl)
    newest (Some r) e = rw e (drops x r fs p k s e)

-- the destructor's run begins
pub hooked : (x : Obj) (h : ℕ) (fs : List Frame) (p : Pool) (k : ℕ) → Sound (frame.Free (Hooked x h)) fs p → KeptBy (step (frame.Free (Hooked x h)) p) fs k
hooked x h fs p k s = stands (frame.Free (Hooked x h)) (frame.Call (Asking (Routine (hook_moment x h)))) fs (frame.Free (Hooked x h) ∷ fs) p (λ y. refl) (s.rests.0, s.waiting) tt s

pub judged : (x : Obj) (h v : ℕ) (fs : List Frame) (p : Pool) (k : ℕ) → Sound (frame.Free (Judged x h v)) fs p → KeptBy (step (frame.Free (Judged x h v)) p) fs k
judged x h v fs p k s =
    let phase = claim-here x InRun (claims x fs) (row_of p.rows x) (s.open_frees x) in
    let row = running-row (row_of p.rows x) (claims x fs) phase in
    by-row row.0 row.1 row.2 row.3 row.4 phase
  where
    self : same x x ≡ true
    self = same-equal x x refl

    hh : nat_eq h 0 ≡ false
    hh = not-zero h s.rests

    by-row : (r : Row) → row_of p.rows x ≡ Some r → IsLive r.mark → claims x fs ≡ [] → r.mark ≡ Asked → InRun ∷ claims x fs ≡ phases (row_of p.rows x) → KeptBy (lifted p.ring (judge_step x h v p)) fs k
    by-row r e live none asked phase =
        let object : target_of r.kind ≡ None = (let t : target_at p.rows x ≡ None = run-refers p.rows x (claims x fs) s.refers phase in let t' : target_in (Some r) ≡ None = rw e at t in t') in
        let unreferred : newest_ref p.rows x ≡ None = run-unreferred p.rows x (claims x fs) s.forest.distinct s.refers phase in
        by_test (nat_eq v 0)
        (λ t. rw t (unmarked-sound (hooked_row 0) (frame.Free (Judged x h v)) (frame.Free (Leaving x h)) fs p x r s (hooks-place 0) (λ q. refl) e object (λ y. rw hh refl)
        (hooked_row 0 r, row_of-changed-same (hooked_row 0) p.rows x r (λ q. refl) e, live, none, object, newest-changed (hooked_row 0) p.rows x x (λ q. refl) (λ q. refl) ∙ unreferred, rw asked refl)))
        (λ t. rw t (changed-sound (marked_row Quiet) (frame.Free (Judged x h v)) (frame.Free (Ending (Refused v))) fs fs p x r s (marks-place Quiet) e
        (live-owned r.mark r.owner x live (shape-of p x r s.valid e)) object (inl (λ q. refl)) (λ y ne. let u : same x y ≡ false = same-false x y ne in rw u refl) none (no-turn-row p.turning p.rows x r s.turned e (rw asked refl)) s.waiting (tt, tt)))
