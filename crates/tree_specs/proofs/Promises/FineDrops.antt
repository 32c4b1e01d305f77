-- What a free tells that begins, drops references or ends fits what was told before.
use Rattle.std.specs.Prelude.{unwrap_or}
use Rattle.tree_specs.proofs.Invariants.KeptFrees.{apart}
use Rattle.tree_specs.proofs.Invariants.KeptGivings.{given_up-object}
use Rattle.tree_specs.proofs.Tree.Referring.{newest-refers, newest-of-refers}
use Rattle.tree_specs.specs.Calls.Refusals.{is_running, is_running_row, is_queue}
use Rattle.tree_specs.specs.Tree.Targets.{newest_ref}
use Rattle.std.proofs.Common.{◌≡◌, ℕ, List, [], ◌∷◌, ◌++◌, Option, Some, None, true, false, nat_eq, refl, sym, ◌∙◌, ap, subst, map, ◌≢◌}
use Rattle.std.specs.List.{list_any}
use Rattle.step_machine.specs.Machine.{Move}
use Rattle.step_machine.specs.Machine.{Move as Do}
use Rattle.step_machine.specs.Noted.{with_note, scene}
use Rattle.tree_specs.specs.declared.object.Obj.{Obj}
use Rattle.tree_specs.specs.declared.object.Owner.{Owner}
use Rattle.tree_specs.specs.declared.object.Owner.TheVariants.{Of, Root}
use Rattle.tree_specs.specs.declared.row.Row.{Row}
use Rattle.tree_specs.specs.declared.row.Mark.{Mark}
use Rattle.tree_specs.specs.declared.row.Mark.TheVariants as mark
use Rattle.tree_specs.specs.declared.event.Event.TheVariants.{Moved, Unreferenced, Closed}
use Rattle.tree_specs.specs.declared.frame.Frame.{Frame}
use Rattle.tree_specs.specs.declared.frame.Frame.TheVariants as frame
use Rattle.tree_specs.specs.declared.frame.FreeFrame.{FreeFrame}
use Rattle.tree_specs.specs.declared.frame.FreeFrame.TheVariants.{Unlinking, Releasing, Giving, Beginning, Hooked, Preparing, Dooming, Leaving, Ending, Draining}
use Rattle.tree_specs.specs.declared.frame.Answer.{Answer}
use Rattle.tree_specs.specs.declared.frame.Answer.TheVariants as answer
use Rattle.tree_specs.specs.declared.free_step.FreeReply.{FreeReply}
use Rattle.tree_specs.specs.declared.free_step.FreeReply.TheVariants as free_reply
use Rattle.tree_specs.specs.Tree.Pool.{Pool, row_of, is_row, owner_of, remove, place, set_mark, doom, target_at, newest_ref_of, is_inside, without}
use Rattle.tree_specs.specs.Rules.Items.{Item}
use Rattle.tree_specs.specs.Rules.Items.Item.{Told}
use Rattle.tree_specs.specs.Rules.Sequence.{CallStart, Scene}
use Rattle.tree_specs.specs.Machine.FreeTable.{begin_plain, begin_quiet, begin_step, refs_step, unlink_step, release_step}
use Rattle.tree_specs.specs.Calls.Refusals.{is_request}
use Rattle.tree_specs.specs.Events.Rotation.{closes_with}
use Rattle.tree_specs.specs.Machine.Table.{notes, step, closed_event, announced, lifted}
use Rattle.tree_specs.specs.Promises.Orderly.{frees}
use Rattle.tree_specs.specs.Invariants.Sound.{IsLive, IsOver, ValidAt, IsQuietRow, IsReferable, AllWait, Tries, footing}
use Rattle.tree_specs.specs.Invariants.Consistent.{IsConsistent}
use Rattle.tree_specs.proofs.Tree.Numbered.{by_test}
use Rattle.tree_specs.proofs.Tree.Rows.{row_of-without-same, row_of-without-other}
use Rattle.tree_specs.proofs.Promises.Later.{later-rows, later-same, later-placed, later-marked, later-removed}
use Rattle.tree_specs.proofs.Promises.Past.{IsLeaving, Past, past-goes, past-tells, unfreed, unaccepted, Accounts, past-drops, undropped}
use Rattle.tree_specs.proofs.Promises.Causes.{NotedWork, told, StandsOn, Stacked, IsRefusedFor, IsAsAtStart, HasJustBegun, RanAtStart, HasRunFor, IsFreeOf, OfNext, Cause}
use Rattle.tree_specs.proofs.Invariants.Waiters.{Waiter, ForFree, ForRun, waiter}
use Rattle.tree_specs.proofs.Promises.Fitting.{fits-moved, fits-dropped, fits-closed}
use Rattle.tree_specs.proofs.Promises.Fine.{work_of, Known, FineBy, restacked, of-next, from-next, ReplyCause, AnswersTo, resumed, known-told}

module _ (scenes : List Scene) (b : Option CallStart) (ws : List NotedWork) (p : Pool) where
  abbrev pub At : FreeFrame → Type 0
  At f = IsConsistent (record { innermost = frame.Free f; below = map work_of ws; pool = p }) → Known scenes (with_note b (frame.Free f)) ws p → FineBy scenes (frame.Free f) b p (step (frame.Free f) p) ws

  -- a destructor waits for no free
  pub over-fine : (f : FreeFrame) → IsConsistent (record { innermost = frame.Free f; below = map work_of ws; pool = p }) → Known scenes (with_note b (frame.Free f)) ws p
      → ((x : Obj) → IsLeaving (frame.Free f) x → ⊥) → FineBy scenes (frame.Free f) b p (Do.Done (answer.Freed free_reply.Ok) p) ws
  over-fine f whole known stays =
      resumed scenes (frame.Free f) b ws p (answer.Freed free_reply.Ok) known.past stays known.stacked whole.sound.waiting
      (of-next (AnswersTo scenes (answer.Freed free_reply.Ok)) (frame.Free f) ws whole.sound.waiting known.stacked answers)
    where
      answers : (g : Frame) (n : Option CallStart) → Waiter g → StandsOn (frame.Free f) g n → AnswersTo scenes (answer.Freed free_reply.Ok) g n
      answers _ n (ForFree q x) on = tt
      answers _ n (ForRun x h) on = absurd on
      answers _ n _ on = tt

  pub ending-fine : (a : FreeReply) → At (Ending a)
  ending-fine a whole known =
      resumed scenes (frame.Free (Ending a)) b ws p (answer.Freed a) known.past (λ x l. l) known.stacked whole.sound.waiting
      (from-next (IsRefusedFor scenes a) (AnswersTo scenes (answer.Freed a)) (frame.Free (Ending a)) ws whole.sound.waiting known.stacked known.cause (answers a whole.sound.rests.0))
    where
      answers : (a : FreeReply) → IsOver a → (g : Frame) (n : Option CallStart) → Waiter g → StandsOn (frame.Free (Ending a)) g n → IsRefusedFor scenes a g n → AnswersTo scenes (answer.Freed a) g n
      answers free_reply.Ok over _ n (ForFree q x) on last = tt
      answers free_reply.Held over _ n (ForFree q x) on last = absurd last
      answers free_reply.Running over _ n (ForFree q x) on last = absurd over
      answers (free_reply.Refused v) over _ n (ForFree q x) on last = last
      answers a over _ n (ForRun x h) on last = absurd on
      answers a over _ n _ on last = tt

  -- an object that runs did so when the call that waits began
  ran-then : (x : Obj) → is_running p x ≡ true → AllWait (map work_of ws) → Stacked (frame.Free (Beginning x)) ws → OfNext (HasJustBegun p) ws → OfNext (HasRunFor x) ws
  ran-then x running wait stacked begun = from-next (HasJustBegun p) (HasRunFor x) (frame.Free (Beginning x)) ws wait stacked begun each
    where
      start : (o : Option CallStart) (y : Obj) → IsAsAtStart p y o → x ≡ y → RanAtStart x o
      start None y h e = tt
      start (Some begun) y h e = subst (λ (z : Obj). is_running begun.start z ≡ true) (sym e) (ap is_running_row h ∙ subst (λ (z : Obj). is_running p z ≡ true) e running)

      each : (g : Frame) (n : Option CallStart) → Waiter g → StandsOn (frame.Free (Beginning x)) g n → HasJustBegun p g n → HasRunFor x g n
      each _ n (ForFree q y) on begun = start n y begun on.0
      each _ n _ on begun = tt

  -- it stays, since something of it runs
  said-fine : (f : FreeFrame) (x : Obj) → ((y : Obj) → IsFreeOf y (frame.Free f) → x ≡ y) → ((y : Obj) → IsLeaving (frame.Free f) y → ⊥)
      → IsConsistent (record { innermost = frame.Free f; below = map work_of ws; pool = p })
      → Known scenes (with_note b (frame.Free f)) ws p → OfNext (HasRunFor x) ws → FineBy scenes (frame.Free f) b p (Do.Done (answer.Freed free_reply.Running) p) ws
  said-fine f x of stays whole known ran =
      resumed scenes (frame.Free f) b ws p (answer.Freed free_reply.Running) known.past stays known.stacked whole.sound.waiting
      (from-next (HasRunFor x) (AnswersTo scenes (answer.Freed free_reply.Running)) (frame.Free f) ws whole.sound.waiting known.stacked ran answers)
    where
      start : (o : Option CallStart) (y : Obj) → RanAtStart x o → x ≡ y → ReplyCause scenes o y free_reply.Running
      start None y h e = tt
      start (Some begun) y h e = subst (λ (z : Obj). is_running begun.start z ≡ true) e h

      answers : (g : Frame) (n : Option CallStart) → Waiter g → StandsOn (frame.Free f) g n → HasRunFor x g n → AnswersTo scenes (answer.Freed free_reply.Running) g n
      answers _ n (ForFree q y) on h = start n y h (of y on.0)
      answers _ n (ForRun y h) on h' = absurd on
      answers _ n _ on h = tt

  pub dooming-fine : (x : Obj) → At (Dooming x)
  dooming-fine x whole known = said-fine (Dooming x) x (λ y h. h) (λ y l. l) whole known known.cause

  -- a step that may tell that a descriptor was closed
  pub closing-fine : (f g : FreeFrame) (o : Option ℕ) (q : Pool) → ((items : List Item) → Past items (frame.Free f) (map work_of ws) p → Past items (frame.Free g) (map work_of ws) q)
      → Stacked (frame.Free g) ws → ((more : List Scene) → Cause more (frame.Free g) None ws q) → Known scenes (with_note b (frame.Free f)) ws p
      → FineBy scenes (frame.Free f) b p (announced (closed_event o) g q) ws
  closing-fine f g None q past stacked cause known = record { past = past (told scenes) known.past; stacked = stacked; cause = cause scenes }
  closing-fine f g (Some fd) q past stacked cause known =
      let e : Item = Told (Closed fd) in
      let s : Scene = scene notes (frame.Free f) b p e in (
        (fits-closed (told scenes) fd, record { answered = tt; held = tt; caused = tt; started = tt }),
        known-told scenes s (with_note None (frame.Free g)) ws q
            (past (told scenes ++ e ∷ []) (past-tells (told scenes) e (frame.Free f) (map work_of ws) p (λ x. refl) (λ x. refl) (λ x. refl) (λ x k. refl) known.past)) stacked (cause (scenes ++ s ∷ [])),
      )

  -- a reference is dropped
  pub dropped-fine : (f g : FreeFrame) (r t : Obj) → IsConsistent (record { innermost = frame.Free f; below = map work_of ws; pool = p }) → Known scenes (with_note b (frame.Free f)) ws p → target_at p.rows r ≡ Some t
      → ((x : Obj) → IsLeaving (frame.Free f) x → ⊥) → Accounts (told scenes ++ Told (Unreferenced r t) ∷ []) (frame.Free g) → ((x : Obj) → IsFreeOf x (frame.Free f) → IsFreeOf x (frame.Free g))
      → Cause (scenes ++ scene notes (frame.Free f) b p (Told (Unreferenced r t)) ∷ []) (frame.Free g) None ws (remove p r)
      → FineBy scenes (frame.Free f) b p (Do.Emit (Told (Unreferenced r t)) (frame.Free g) (remove p r)) ws
  dropped-fine f g r t whole known is stays account free cause = by-row (row_of p.rows r) refl (whole.sound.refers.quiet r t is) (row_of p.rows t) refl (whole.sound.refers.target r t is)
    where
      e : Item
      e = Told (Unreferenced r t)

      gone : row_of (without p.rows r) r ≡ None
      gone = row_of-without-same p.rows r whole.sound.forest.distinct

      by-row : (q : Option Row) → row_of p.rows r ≡ q → IsQuietRow q → (u : Option Row) → row_of p.rows t ≡ u → IsReferable u
          → FineBy scenes (frame.Free f) b p (Do.Emit (Told (Unreferenced r t)) (frame.Free g) (remove p r)) ws
      by-row None q quiet u k there = absurd quiet
      by-row (Some row) q quiet None k there = absurd there
      by-row (Some row) q quiet (Some target) k there =
          let v : ValidAt p.next (Some row) r = rw q at (whole.sound.valid r) in (
            (
              fits-dropped (told scenes) r t (undropped (told scenes) (frame.Free f) (map work_of ws) p r row known.past q) (unfreed (told scenes) (frame.Free f) (map work_of ws) p t target known.past k),
              record { answered = tt; held = tt; caused = tt; started = tt },
            ),
            known-told scenes (scene notes (frame.Free f) b p (Told (Unreferenced r t))) (with_note None (frame.Free g)) ws (remove p r)
                (past-drops (told scenes) r t (frame.Free f) (frame.Free g) (map work_of ws) p (remove p r) known.past (later-removed p r whole.sound.forest.distinct) v.1 gone stays account)
                (restacked (frame.Free f) (frame.Free g) ws free (λ y h. h) known.stacked) cause,
          )

  -- nothing else has happened to an object after a reference to it was dropped
  still-begun : (f : FreeFrame) (x r : Obj) → r ≢ x → ((y : Obj) → IsFreeOf y (frame.Free f) → x ≡ y) → AllWait (map work_of ws) → Stacked (frame.Free f) ws → OfNext (HasJustBegun p) ws → OfNext (HasJustBegun (remove p r)) ws
  still-begun f x r ne of wait stacked begun = from-next (HasJustBegun p) (HasJustBegun (remove p r)) (frame.Free f) ws wait stacked begun each
    where
      kept : (y : Obj) → x ≡ y → (n : Option CallStart) → IsAsAtStart p y n → IsAsAtStart (remove p r) y n
      kept y e None h = absurd h
      kept y e (Some m) h = h ∙ sym (row_of-without-other p.rows r y (λ q. ne (q ∙ sym e)))

      each : (g : Frame) (n : Option CallStart) → Waiter g → StandsOn (frame.Free f) g n → HasJustBegun p g n → HasJustBegun (remove p r) g n
      each _ n (ForFree q y) on h = kept y (of y on.0) n h
      each _ n _ on h = tt

  -- a call's own free is never held
  no-held : (more : List Scene) (x r : Obj) (us : List NotedWork) → AllWait (map work_of us) → Tries x (footing (map work_of us)) p → newest_ref p.rows x ≡ Some r → OfNext (IsRefusedFor more free_reply.Held) us
  no-held more x r [] wait tries e = tt
  no-held more x r (u ∷ us) wait tries e = below u.work (waiter u.work (map work_of us) wait.0) tries
    where
      below : (g : Frame) → Waiter g → Tries x (footing (g ∷ map work_of us)) p → IsRefusedFor more free_reply.Held g u.note
      below _ (ForFree q y) t = let bad : None ≡ Some r = sym t ∙ e in cc
      below _ _ t = tt

  no-refusal : (f : Frame) (r x : Obj) → AllWait (map work_of ws) → Stacked f ws → OfNext (IsRefusedFor (scenes ++ scene notes f b p (Told (Unreferenced r x)) ∷ []) free_reply.Ok) ws
  no-refusal f r x wait stacked = of-next (IsRefusedFor (scenes ++ scene notes f b p (Told (Unreferenced r x)) ∷ []) free_reply.Ok) f ws wait stacked (λ g n waits on. tt)

  pub beginning-fine : (x : Obj) → At (Beginning x)
  beginning-fine x whole known = newest (newest_ref p.rows x) refl
    where
      f : Frame
      f = frame.Free (Beginning x)

      Step : Move Frame Answer Pool Item → Type 0
      Step m = FineBy scenes f b p m ws

      plain : (r : Row) → row_of p.rows x ≡ Some r → IsLive r.mark → Step (lifted p.ring (begin_plain x r.hook p))
      plain r e live =
          by_test (nat_eq r.hook 0)
          (λ t. rw t (record {
            past = past-goes (told scenes) f (frame.Free (Leaving x 0)) (map work_of ws) (map work_of ws) p p known.past (later-same p) (λ y l. absurd l)
                (unaccepted (told scenes) f (map work_of ws) p x r known.past e live (λ l. l)) known.past.all_account;
            stacked = restacked f (frame.Free (Leaving x 0)) ws (λ y h. h) (λ y h. h) known.stacked;
            cause = tt;
          }))
          (λ t. rw t (record {
            past = past-goes (told scenes) f (frame.Free (Hooked x r.hook)) (map work_of ws) (map work_of ws) p (set_mark p x mark.Asked) known.past (later-marked p x r mark.Asked e live) (λ y l. absurd l) tt known.past.all_account;
            stacked = restacked f (frame.Free (Hooked x r.hook)) ws (λ y h. h) (λ y h. h) known.stacked;
            cause = tt;
          }))

      quiet : (r : Row) → row_of p.rows x ≡ Some r → r.mark ≡ mark.Quiet → Step (lifted p.ring (begin_quiet x r.kind r.hook p))
      quiet r e m =
          let live : IsLive r.mark = rw m tt in
          by_test (is_request r.kind)
          (λ t. rw t (record {
            past = past-goes (told scenes) f (frame.Free (Preparing x)) (map work_of ws) (map work_of ws) p (set_mark p x mark.Asked) known.past (later-marked p x r mark.Asked e live) (λ y l. absurd l) tt known.past.all_account;
            stacked = restacked f (frame.Free (Preparing x)) ws (λ y h. h) (λ y h. h) known.stacked;
            cause = tt;
          }))
          (λ u. by_test (is_queue r.kind)
          (λ t. rw (u, t) (record {
            past = past-goes (told scenes) f (frame.Free (Draining x)) (map work_of ws) (map work_of ws) p (set_mark p x mark.Asked) known.past (later-marked p x r mark.Asked e live) (λ y l. absurd l) tt known.past.all_account;
            stacked = restacked f (frame.Free (Draining x)) ws (λ y h. h) (λ y h. h) known.stacked;
            cause = tt;
          }))
          (λ t. rw (u, t) (plain r e live)))

      runs : is_running p x ≡ true → Step (Do.Done (answer.Freed free_reply.Running) p)
      runs run = said-fine (Beginning x) x (λ y h. h) (λ y l. l) whole known (ran-then x run whole.sound.waiting known.stacked known.cause)

      dooms : (r : Row) → row_of p.rows x ≡ Some r → r.mark ≡ mark.Busy → is_running p x ≡ true → Step (announced (closed_event (closes_with p.ring x)) (Dooming x) (doom p x))
      dooms r e m run = closing-fine (Beginning x) (Dooming x) (closes_with p.ring x) (doom p x)
          (λ items past. past-goes items f (frame.Free (Dooming x)) (map work_of ws) (map work_of ws) p (doom p x) past
          (later-rows (later-marked p x r mark.Doomed e (rw m tt)) refl refl refl) (λ y l. absurd l) tt past.all_account)
          (restacked f (frame.Free (Dooming x)) ws (λ y h. h) (λ y h. h) known.stacked)
          (λ more. ran-then x run whole.sound.waiting known.stacked known.cause) known

      marks : (r : Row) (m : Mark) → r.mark ≡ m → row_of p.rows x ≡ Some r → Step (lifted p.ring (begin_step x (row_of p.rows x) p))
      marks r mark.Quiet m e = rw (e, m) (quiet r e m)
      marks r mark.Asked m e = let run : is_running p x ≡ true = rw (e, m) refl in rw (e, m) (runs run)
      marks r mark.Busy m e = let run : is_running p x ≡ true = rw (e, m) refl in rw (e, m) (dooms r e m run)
      marks r mark.Doomed m e = let run : is_running p x ≡ true = rw (e, m) refl in rw (e, m) (runs run)
      marks r (mark.Dying former) m e = rw (e, m) (over-fine (Beginning x) whole known (λ y l. l))

      each : (o : Option Row) → row_of p.rows x ≡ o → Step (lifted p.ring (begin_step x (row_of p.rows x) p))
      each None e = rw e (over-fine (Beginning x) whole known (λ y l. l))
      each (Some r) e = marks r r.mark refl e

      newest : (o : Option Obj) → newest_ref p.rows x ≡ o → Step (lifted p.ring (refs_step x (newest_ref p.rows x) p))
      newest None e = rw e (each (row_of p.rows x) refl)
      newest (Some r) e =
          let w = newest-refers p.rows x r whole.sound.forest.distinct e in
          let is : target_at p.rows r ≡ Some x = rw w.1 w.2 in
          let ne : r ≢ x = apart p x r x whole.sound.rests.1 is in
          rw e (by_test (is_inside p.rows (Of r) (Of x))
          (λ t. rw t (dropped-fine (Beginning x) (Beginning x) r x whole known is (λ y l. l) tt (λ y h. h) (still-begun (Beginning x) x r ne (λ y h. h) whole.sound.waiting known.stacked known.cause)))
          (λ t. rw t (dropped-fine (Beginning x) (Ending free_reply.Held) r x whole known is (λ y l. l) tt (λ y h. tt) (no-held (scenes ++ scene notes (frame.Free (Beginning x)) b p (Told (Unreferenced r x)) ∷ []) x r ws whole.sound.waiting whole.sound.rests.0 e))))

  pub unlinking-fine : (o : Owner) (x : Obj) → At (Unlinking o x)
  unlinking-fine o x whole known = each (newest_ref_of p.rows o x) refl
    where
      each : (n : Option Obj) → newest_ref_of p.rows o x ≡ n → FineBy scenes (frame.Free (Unlinking o x)) b p (lifted p.ring (unlink_step x (newest_ref_of p.rows o x) p)) ws
      each None e = rw e (record {
        past = past-goes (told scenes) (frame.Free (Unlinking o x)) (frame.Free (Releasing x)) (map work_of ws) (map work_of ws) p p known.past (later-same p) (λ y l. absurd l) tt known.past.all_account;
        stacked = restacked (frame.Free (Unlinking o x)) (frame.Free (Releasing x)) ws (λ y h. h) (λ y h. h) known.stacked;
        cause = known.cause;
      })
      each (Some r) e =
          let w = newest-of-refers p.rows o x r whole.sound.forest.distinct e in
          let is : target_at p.rows r ≡ Some x = rw w.1 w.2 in
          rw e (dropped-fine (Unlinking o x) (Ending free_reply.Ok) r x whole known is (λ y l. l) tt (λ y h. tt) (no-refusal (frame.Free (Unlinking o x)) r x whole.sound.waiting known.stacked))

  pub releasing-fine : (x : Obj) → At (Releasing x)
  releasing-fine x whole known = each (newest_ref p.rows x) refl
    where
      each : (n : Option Obj) → newest_ref p.rows x ≡ n → FineBy scenes (frame.Free (Releasing x)) b p (lifted p.ring (release_step x (newest_ref p.rows x) p)) ws
      each None e = rw e (record {
        past = past-goes (told scenes) (frame.Free (Releasing x)) (frame.Free (Beginning x)) (map work_of ws) (map work_of ws) p p known.past (later-same p) (λ y l. absurd l) tt known.past.all_account;
        stacked = restacked (frame.Free (Releasing x)) (frame.Free (Beginning x)) ws (λ y h. h) (λ y h. h) known.stacked;
        cause = known.cause;
      })
      each (Some r) e =
          let w = newest-refers p.rows x r whole.sound.forest.distinct e in
          let is : target_at p.rows r ≡ Some x = rw w.1 w.2 in
          let ne : r ≢ x = apart p x r x (given_up-object x (map work_of ws) p whole.sound.rests) is in
          rw e (by_test (is_inside p.rows (Of r) (Of x))
          (λ t. rw t (dropped-fine (Releasing x) (Releasing x) r x whole known is (λ y l. l) tt (λ y h. h) (still-begun (Releasing x) x r ne (λ y h. h) whole.sound.waiting known.stacked known.cause)))
          (λ t. rw t (dropped-fine (Releasing x) (Giving x (unwrap_or (owner_of p.rows r) Root)) r x whole known is (λ y l. l) tt (λ y h. h) tt)))

  pub giving-fine : (x : Obj) (o : Owner) → At (Giving x o)
  giving-fine x o whole known =
      let f : Frame = frame.Free (Giving x o) in
      let g : Frame = frame.Free (Ending free_reply.Ok) in
      let may = whole.sound.rests in
      let child : is_row p.rows x ≡ true = rw may.is refl in
      let past = past-tells (told scenes) (Told (Moved x o)) f (map work_of ws) p (λ y. refl) (λ y. refl) (λ y. refl) (λ y k. refl) known.past in (
        (fits-moved (told scenes) p.rows x o (λ y e. there y (row_of p.rows y) refl e) child may.there, record { answered = tt; held = tt; caused = tt; started = tt }),
        known-told scenes (scene notes f b p (Told (Moved x o))) (with_note None g) ws (place p o x)
            (past-goes (told scenes ++ Told (Moved x o) ∷ []) f g (map work_of ws) (map work_of ws) p (place p o x) past (later-placed p o x may.row may.is) (λ y l. absurd l) tt past.all_account)
            (restacked f g ws (λ y h. tt) (λ y h. h) known.stacked)
            (of-next (IsRefusedFor (scenes ++ scene notes f b p (Told (Moved x o)) ∷ []) free_reply.Ok) f ws whole.sound.waiting known.stacked (λ g n waits on. tt)),
      )
    where
      there : (y : Obj) (q : Option Row) → row_of p.rows y ≡ q → is_row p.rows y ≡ true → list_any (frees y) (told scenes) ≡ false
      there y None h e = let bad : false ≡ true = rw h at e in cc
      there y (Some r) h e = unfreed (told scenes) (frame.Free (Giving x o)) (map work_of ws) p y r known.past h
