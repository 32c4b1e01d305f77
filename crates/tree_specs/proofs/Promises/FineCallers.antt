-- The steps of callers: a question, a call, a reply, a return.
use Rattle.tree_specs.specs.Machine.Profiles.{InRun, profile}
use Rattle.tree_specs.specs.declared.reply.Reply.TheVariants as reply
use Rattle.tree_specs.specs.declared.reply.Refusal.TheVariants as refusal
use Rattle.tree_specs.specs.declared.frame.TurnFrame.TheVariants.{Taking}
use Rattle.tree_specs.specs.declared.frame.OutsideFrame.TheVariants.{Reaching}
use Rattle.tree_specs.specs.declared.notice.Notice.{Notice}
use Rattle.tree_specs.specs.declared.notice.Notice.TheVariants as notices
use Rattle.tree_specs.specs.declared.row.Row.{Row}
use Rattle.std.specs.List.{list_any}
use Rattle.tree_specs.specs.Tree.Targets.{newest_ref}
use Rattle.std.proofs.Common.{◌≡◌, ℕ, nat_eq, List, [], ◌∷◌, ◌++◌, Option, Some, None, true, refl, sym, subst, map, false}
use Rattle.step_machine.specs.Machine.{Move as Do}
use Rattle.step_machine.specs.Noted.{noted_work, with_note, scene}
use Rattle.tree_specs.specs.declared.object.Obj.{Obj}
use Rattle.tree_specs.specs.declared.call.Call.{Call}
use Rattle.tree_specs.specs.declared.call.Call.TheVariants as call
use Rattle.tree_specs.specs.declared.question.Ask.{Ask}
use Rattle.tree_specs.specs.declared.question.Ask.TheVariants as ask
use Rattle.tree_specs.specs.declared.question.Input.{Input}
use Rattle.tree_specs.specs.declared.reply.Reply.{Reply}
use Rattle.tree_specs.specs.declared.event.Event.TheVariants.{Replied, Warned, Closed}
use Rattle.tree_specs.specs.declared.frame.Frame.{Frame}
use Rattle.tree_specs.specs.declared.frame.Frame.TheVariants as frame
use Rattle.tree_specs.specs.declared.frame.CallFrame.TheVariants.{Asking, Doing, Awaiting, Turning, Requesting, Announcing, Telling, Returning}
use Rattle.tree_specs.specs.declared.frame.FreeFrame.TheVariants.{Unlinking, Beginning, Looping}
use Rattle.tree_specs.specs.declared.frame.Purpose.TheVariants.{Emptying}
use Rattle.tree_specs.specs.declared.frame.Answer.TheVariants as answer
use Rattle.tree_specs.specs.Tree.Pool.{enter, Pool, row_of}
use Rattle.tree_specs.specs.Rules.Items.{Item}
use Rattle.tree_specs.specs.Rules.Items.Item.{Told, Asked}
use Rattle.tree_specs.specs.Calls.Refusals.{Check, refusals, tests, is_held, is_nested}
use Rattle.tree_specs.specs.Rules.Sequence.{CallStart, Scene}
use Rattle.tree_specs.specs.Rules.Answers.{later}
use Rattle.tree_specs.specs.Machine.Table.{notes, step, taken, plan_step, turning_step}
use Rattle.tree_specs.specs.Promises.Orderly.{Fits, accepts, drops, has_state_from, frees as tells_free, asks_hook}
use Rattle.tree_specs.specs.Promises.Grounded.{AsksHook}
use Rattle.tree_specs.specs.Invariants.Sound.{AllWait, claim, claims, phases, Refers, Sound}
use Rattle.tree_specs.specs.Invariants.Consistent.{IsConsistent, IsStacked, Serves}
use Rattle.tree_specs.proofs.Tree.Numbered.{by_test, same-equal}
use Rattle.tree_specs.proofs.Calls.Checks.{all-pass, Heard, HeardCall, HeardReturn, heard-leads, planned-at-by}
use Rattle.tree_specs.proofs.Calls.Plans.{MayWork, May, may-planned-at}
use Rattle.tree_specs.proofs.Calls.Changes.{follows}
use Rattle.tree_specs.specs.Tree.Forest.{Distinct}
use Rattle.tree_specs.specs.Calls.Plans.{Plan, plan, planned, unless_refused, changed_by, frees, replies, failure_in, failure_reply, progress_reply, planned_at}
use Rattle.tree_specs.specs.Calls.Plans.Plan.{Does, Frees, Unlinks, Empties, Asks, Turns, Works}
use Rattle.tree_specs.specs.Calls.Plans.Change.{Enter}
use Rattle.tree_specs.specs.Calls.Passed.{IsUsable}
use Rattle.tree_specs.specs.declared.request.Note.{Note}
use Rattle.tree_specs.specs.declared.request.State.{State}
use Rattle.tree_specs.specs.declared.request.State.TheVariants as state
use Rattle.tree_specs.specs.declared.frame.Errand.{Errand}
use Rattle.tree_specs.specs.declared.frame.Errand.TheVariants.{Finish, Notify, Receive, Cancel}
use Rattle.tree_specs.specs.declared.frame.RequestFrame.{RequestFrame}
use Rattle.tree_specs.specs.declared.frame.RequestFrame.TheVariants as request
use Rattle.tree_specs.specs.Events.Requests.{note_of, is_in_progress}
use Rattle.tree_specs.proofs.Invariants.Changes.{running-row, claim-here}
use Rattle.tree_specs.proofs.Promises.Later.{Later, later-same}
use Rattle.tree_specs.proofs.Promises.Past.{Accounts, Past, past-goes, past-tells, unfreed, unaccepted}
use Rattle.tree_specs.proofs.Promises.Causes.{NotedWork, told, IsFreeOf, IsAskedAs, IsHook, TurnsOrAsks, FreesBy, StandsOn, Stacked, IsCaused, IsAskedFor, Cause, NotHeld}
use Rattle.tree_specs.proofs.Invariants.Waiters.{ForParting, Waiter, ForFree, ForRun, ForChild, ForTurn, ForHandler, ForClear, ForRequest, ForServed, ForReceived, ForRoutine, ForRelease, waiter, ForDrained, ForEntry}
use Rattle.tree_specs.proofs.Calls.OwnRefusals.{AllOwn, own-refused, own-just-now, own-call}
use Rattle.tree_specs.proofs.Promises.Fitting.{last-more, fits-replied, fits-quiet, fits-asked, fits-handler, fits-warned, fits-closed}
use Rattle.tree_specs.proofs.Promises.Fine.{work_of, Known, FineBy, restacked, goes-on, waits-for, of-next, from-next, later-hook, AnswersTo, resumed, caused-turn, known-told, taken-noted}
use Rattle.tree_specs.specs.Events.Queues.{runs}

-- the question of a destructor is of its object
asks-hook : (x : Obj) (q : Ask) → IsAskedAs (IsHook x) q → asks_hook x (Asked q) ≡ true
asks-hook x (ask.Routine m) h = rw (h.0, same-equal m.object x h.1) refl
asks-hook x _ h = absurd h

pub asking-fine : (scenes : List Scene) (q : Ask) (b : Option CallStart) (ws : List NotedWork) (p : Pool) → IsConsistent (record { innermost = frame.Call (Asking q); below = map work_of ws; pool = p })
    → Known scenes (with_note b (frame.Call (Asking q))) ws p → FineBy scenes (frame.Call (Asking q)) b p (step (frame.Call (Asking q)) p) ws
asking-fine scenes q b ws p whole known = (
  (fits ws whole.seated whole.sound.waiting known.stacked whole.sound.open_frees, record { answered = tt; held = tt; caused = tt; started = tt }),
  next,
)
  where
    f : Frame
    f = frame.Call (Asking q)

    s : Scene
    s = scene notes f b p (Asked q)

    -- of a destructor only where a free waits for it
    of-hook : (g : Frame) (gs : List Frame) (n : Option CallStart) → Waiter g → StandsOn f g n → Serves (profile g).waits f
        → ((x : Obj) → claim x g ++ claims x gs ≡ phases (row_of p.rows x)) → Fits (told scenes) (Asked q)
    of-hook _ gs n (ForRun x h) on seat claimed =
        let row = running-row (row_of p.rows x) (claims x gs) (claim-here x InRun (claims x gs) (row_of p.rows x) (claimed x)) in
        fits-asked (told scenes) x (unaccepted (told scenes) f (map work_of ws) p x row.0 known.past row.1 row.2 (λ l. l)) (unfreed (told scenes) f (map work_of ws) p x row.0 known.past row.1) q on
    of-hook _ gs n (ForFree a x) on seat claimed = absurd on.0
    of-hook _ gs n (ForHandler w x h occasion) on seat claimed = fits-handler (told scenes) q on
    of-hook _ gs n (ForChild x c noted purpose) on seat claimed = absurd on
    of-hook _ gs n (ForTurn a) on seat claimed = absurd seat
    of-hook _ gs n (ForClear x) on seat claimed = absurd seat
    of-hook _ gs n (ForParting x v) on seat claimed = absurd seat
    of-hook _ gs n (ForRoutine w x h errand) on seat claimed = fits-handler (told scenes) q on
    of-hook _ gs n (ForRequest a) on seat claimed = absurd seat
    of-hook _ gs n (ForServed x) on seat claimed = absurd seat
    of-hook _ gs n (ForReceived x) on seat claimed = absurd seat
    of-hook _ gs n (ForRelease x) on seat claimed = absurd seat
    of-hook _ gs n (ForDrained x) on seat claimed = absurd seat
    of-hook _ gs n (ForEntry q x) on seat claimed = absurd seat

    fits : (us : List NotedWork) → IsStacked f (map work_of us) → AllWait (map work_of us) → Stacked f us → ((x : Obj) → claims x (map work_of us) ≡ phases (row_of p.rows x)) → Fits (told scenes) (Asked q)
    fits [] seated wait on claimed = fits-quiet (told scenes) q seated
    fits (u ∷ us) seated wait on claimed = of-hook u.work (map work_of us) u.note (waiter u.work (map work_of us) wait.0) on.0 seated.0 claimed

    past : Past (told scenes ++ Asked q ∷ []) f (map work_of ws) p
    past = past-tells (told scenes) (Asked q) f (map work_of ws) p (λ x. refl) (λ x. refl) (λ x. refl) (λ x k. refl) known.past

    goes : (g : Frame) → Accounts (told scenes ++ Asked q ∷ []) g → Past (told scenes ++ Asked q ∷ []) g (map work_of ws) p
    goes g a = past-goes (told scenes ++ Asked q ∷ []) f g (map work_of ws) (map work_of ws) p p past (later-same p) (λ x l. absurd l) a past.all_account

    -- the routine that was just asked returns
    asked : (g : Frame) (n : Option CallStart) → Waiter g → StandsOn f g n → IsAskedFor (scenes ++ s ∷ []) g n
    asked _ n (ForRun x h) on = last-more (AsksHook x) scenes s (asks-hook x q on)
    asked _ n _ on = tt

    leads : (g : Frame) → Heard q g → Known (scenes ++ s ∷ []) (with_note b g) ws p
    leads _ (HeardCall c) = known-told scenes s (with_note b (frame.Call (Doing q c))) ws p (goes _ tt) (restacked f (frame.Call (Doing q c)) ws (λ x h. h) (λ x h. h) known.stacked) tt
    leads _ (HeardReturn v of) = known-told scenes s (with_note b (frame.Call (Returning v))) ws p (goes _ tt) (restacked f (frame.Call (Returning v)) ws (λ x h. h) (λ x h. tt) known.stacked)
        (of-next (IsAskedFor (scenes ++ s ∷ [])) f ws whole.sound.waiting known.stacked asked)

    next : (i : Input) (g : NotedWork) → noted_work b (taken f p i) ≡ Some g → Known (scenes ++ s ∷ []) g ws p
    next i g e =
        let t = taken-noted b (taken f p i) g e in
        subst (λ (w : NotedWork). Known (scenes ++ s ∷ []) w ws p) (sym t.2) (leads t.0 (heard-leads q i t.0 t.1))

-- ---- the other steps of callers

pub telling-fine : (scenes : List Scene) (q : Ask) (r : Reply) (b : Option CallStart) (ws : List NotedWork) (p : Pool)
    → Known scenes (with_note b (frame.Call (Telling q r))) ws p → FineBy scenes (frame.Call (Telling q r)) b p (step (frame.Call (Telling q r)) p) ws
telling-fine scenes q r b ws p known =
    let f : Frame = frame.Call (Telling q r) in
    let g : Frame = frame.Call (Asking q) in
    let e : Item = Told (Replied r) in
    let past = past-tells (told scenes) e f (map work_of ws) p (λ x. refl) (λ x. refl) (λ x. refl) (λ x k. refl) known.past in (
      (fits-replied (told scenes) r known.cause.0, record { answered = known.cause.1; held = known.cause.2; caused = known.cause.3; started = tt }),
      known-told scenes (scene notes f b p e) (with_note None g) ws p
          (past-goes (told scenes ++ e ∷ []) f g (map work_of ws) (map work_of ws) p p past (later-same p) (λ x l. absurd l) tt past.all_account)
          (restacked f g ws (λ x h. h) (λ x h. h) known.stacked) tt,
    )

-- a notice is told, and then the reply
pub announcing-fine : (scenes : List Scene) (q : Ask) (notice : Notice) (r : Reply) (b : Option CallStart) (ws : List NotedWork) (p : Pool)
    → Known scenes (with_note b (frame.Call (Announcing q notice r))) ws p → FineBy scenes (frame.Call (Announcing q notice r)) b p (step (frame.Call (Announcing q notice r)) p) ws
announcing-fine scenes q notice r b ws p known = each notice known
  where
    next : (notice : Notice) (e : Item) → ((x : Obj) → accepts x e ≡ false) → ((x : Obj) → tells_free x e ≡ false) → ((x : Obj) → drops x e ≡ false) → ((x : Obj) (k : ℕ) → has_state_from k x e ≡ false)
        → Known scenes (with_note b (frame.Call (Announcing q notice r))) ws p
        → Known (scenes ++ scene notes (frame.Call (Announcing q notice r)) b p e ∷ []) (with_note b (frame.Call (Telling q r))) ws p
    next notice e accepts_none frees_none drops_none states_none known =
        let f : Frame = frame.Call (Announcing q notice r) in
        let g : Frame = frame.Call (Telling q r) in
        let past = past-tells (told scenes) e f (map work_of ws) p accepts_none frees_none drops_none states_none known.past in
        known-told scenes (scene notes f b p e) (with_note b g) ws p
        (past-goes (told scenes ++ e ∷ []) f g (map work_of ws) (map work_of ws) p p past (later-same p) (λ y l. absurd l) tt past.all_account)
        (restacked f g ws (λ y h. h) (λ y h. h) known.stacked) (known.cause.0 (scenes ++ scene notes f b p e ∷ []))

    each : (notice : Notice) → Known scenes (with_note b (frame.Call (Announcing q notice r))) ws p → FineBy scenes (frame.Call (Announcing q notice r)) b p (step (frame.Call (Announcing q notice r)) p) ws
    each (notices.Warned x) known = (
      (fits-warned (told scenes) x (there (row_of p.rows x) refl), record { answered = tt; held = tt; caused = tt; started = tt }),
      next (notices.Warned x) (Told (Warned x)) (λ y. refl) (λ y. refl) (λ y. refl) (λ y k. refl) known,
    )
      where
        there : (o : Option Row) → row_of p.rows x ≡ o → list_any (tells_free x) (told scenes) ≡ false
        there None e = let bad : false ≡ true = rw e at known.cause.1 in cc
        there (Some row) e = unfreed (told scenes) (frame.Call (Announcing q (notices.Warned x) r)) (map work_of ws) p x row known.past e
    each (notices.Closed fd) known = (
      (fits-closed (told scenes) fd, record { answered = tt; held = tt; caused = tt; started = tt }),
      next (notices.Closed fd) (Told (Closed fd)) (λ y. refl) (λ y. refl) (λ y. refl) (λ y k. refl) known,
    )

pub returning-fine : (scenes : List Scene) (v : ℕ) (b : Option CallStart) (ws : List NotedWork) (p : Pool) → AllWait (map work_of ws)
    → Known scenes (with_note b (frame.Call (Returning v))) ws p → FineBy scenes (frame.Call (Returning v)) b p (step (frame.Call (Returning v)) p) ws
returning-fine scenes v b ws p wait known =
    resumed scenes (frame.Call (Returning v)) b ws p (answer.Returned v) known.past (λ x l. l) known.stacked wait
    (from-next (IsAskedFor scenes) (AnswersTo scenes (answer.Returned v)) (frame.Call (Returning v)) ws wait known.stacked known.cause answers)
  where
    answers : (g : Frame) (n : Option CallStart) → Waiter g → StandsOn (frame.Call (Returning v)) g n → IsAskedFor scenes g n → AnswersTo scenes (answer.Returned v) g n
    answers _ n (ForRun x h) on last = last
    answers _ n (ForFree q x) on last = absurd on.0
    answers _ n _ on last = tt

-- ---- calls

-- why a plan replies so, or which call it is that frees
abbrev CausedBy : Pool → Call → Plan → Type 0
CausedBy p c (Does change notice r) = (scenes : List Scene) → IsCaused scenes (Some (record { call = c; start = p })) r
CausedBy p c (Frees x) = FreesBy x c × NotHeld c p
CausedBy p c (Unlinks o x) = FreesBy x c × NotHeld c p
CausedBy p c (Empties x) = FreesBy x c × NotHeld c p
CausedBy p c (Asks q) = TurnsOrAsks c
CausedBy p c (Turns x) = TurnsOrAsks c
CausedBy p c (Works change errand x) = TurnsOrAsks c

-- what isn't said of a call is a reply that needs no cause
caused : (p : Pool) (c : Call) → refusals p c ≡ [] → CausedBy p c (plan p c)
caused p (call.Free x) none = each (newest_ref p.rows x) ((all-pass p (tests (call.Free x)) none).1.0)
  where
    each : (o : Option Obj) → is_held p x ≡ false → CausedBy p (call.Free x) (frees o x)
    each None free = (refl, free)
    each (Some r) free = (refl, free)
caused p (call.Freekids x) none = (refl, tt)
caused p (call.Unlink o x) none = (refl, tt)
caused p (call.Accept fd) none = tt
caused p (call.Read fd len) none = tt
caused p (call.Write fd bytes) none = tt
caused p call.Now none = tt
caused p (call.Turn x) none = tt
caused p (call.Cancel x) none = tt
caused p (call.Done x) none = tt
caused p (call.Oom x) none = tt
caused p (call.Error x error) none = by_test (nat_eq error 0) (λ t. rw t (λ scenes. (tt, tt, tt, tt))) (λ t. rw t tt)
caused p (call.Received x) none = tt
caused p (call.Iserror x) none = each (note_of p.requests x)
  where
    states : (s : State) (error : ℕ) → CausedBy p (call.Iserror x) (replies (failure_in s error))
    states state.Done error = λ scenes. (tt, tt, tt, tt)
    states _ error = λ scenes. (tt, tt, tt, tt)

    each : (o : Option Note) → CausedBy p (call.Iserror x) (replies (failure_reply o))
    each None = λ scenes. (tt, tt, tt, tt)
    each (Some n) = states n.state n.error
caused p (call.Progress x) none = each (note_of p.requests x)
  where
    each : (o : Option Note) → CausedBy p (call.Progress x) (replies (progress_reply o))
    each None = λ scenes. (tt, tt, tt, tt)
    each (Some n) = by_test (is_in_progress n.state) (λ t. rw t (λ scenes. (tt, tt, tt, tt))) (λ t. rw t (λ scenes. (tt, tt, tt, tt)))
caused p (call.Start q) none = by_test (runs p.queues q) (λ t. rw t (λ scenes. (tt, tt, tt, tt))) (λ t. rw t (λ scenes. (tt, tt, tt, tt)))
caused p c none = λ scenes. (tt, tt, tt, tt)

caused-planned : (p : Pool) (c : Call) → Distinct p.rows → Refers p.rows → CausedBy p c (planned p c)
caused-planned p c d refers = each (refusals p c) refl (own-refused p (tests c))
  where
    each : (check : Check) → refusals p c ≡ check → AllOwn p check → CausedBy p c (unless_refused check (plan p c))
    each [] none own = caused p c none
    each (why ∷ rest) e own = λ scenes. (let h = own-call scenes p c why rest d refers e in (own-just-now (told scenes) p why own.0, h.0, h.1, h.2))

-- a turn that is refused as nested needs no cause
caused-nested : (q : Ask) (p : Pool) (c : Call) → is_nested q c ≡ true → CausedBy p c (replies (reply.No refusal.Nested))
caused-nested (ask.Routine m) p (call.Turn x) e = λ scenes. (tt, tt, tt, tt)
caused-nested q p c e = cc

-- a turn that is nested has its reply told, and any other is waited for
turning-fine : (scenes : List Scene) (q : Ask) (x : Obj) (c : Call) (b : Option CallStart) (ws : List NotedWork) (p : Pool) → IsUsable p x → Known scenes (with_note b (frame.Call (Doing q c))) ws p → TurnsOrAsks c
    → FineBy scenes (frame.Call (Doing q c)) b p (turning_step q x p) ws
turning-fine scenes ask.Quiet x c b ws p may known turns =
    waits-for scenes (frame.Call (Doing ask.Quiet c)) (frame.Call (Turning ask.Quiet)) b ws p (enter p x) (frame.Turn Taking) (record { stays = λ y l. l; free = λ y h. h; run = λ P h. h }) (follows p (Enter x) may).later tt tt turns tt known
turning-fine scenes q x c b ws p may known turns =
    let r : Reply = reply.No refusal.Nested in
    goes-on scenes (frame.Call (Doing q c)) (frame.Call (Telling (later q r) r)) b ws p p (record { stays = λ y l. l; free = λ y h. h; run = λ P h. later-hook P q r h }) (later-same p) tt
    (caused-turn scenes (Some (record { call = c; start = p })) r turns tt) known

-- a call that needs no free has its reply told
module _ (scenes : List Scene) (q : Ask) (c : Call) (b : Option CallStart) (ws : List NotedWork) (p : Pool) (known : Known scenes (with_note b (frame.Call (Doing q c))) ws p) where
  abbrev begun : CallStart
  begun = record { call = c; start = p }

  told-next : (r : Reply) (p' : Pool) → Later p p' → IsCaused scenes (Some begun) r → FineBy scenes (frame.Call (Doing q c)) b p (Do.Go (frame.Call (Telling (later q r) r)) p') ws
  told-next r p' after cause =
      goes-on scenes (frame.Call (Doing q c)) (frame.Call (Telling (later q r) r)) b ws p p' (record { stays = λ x l. l; free = λ x h. h; run = λ P h. later-hook P q r h }) after tt cause known

  -- a call that frees waits for the free
  frees-next : (x : Obj) (g : Frame) → IsFreeOf x g → FreesBy x c → NotHeld c p → Accounts (told scenes) g → Cause scenes g None (with_note (Some begun) (frame.Call (Awaiting q x)) ∷ ws) p
      → FineBy scenes (frame.Call (Doing q c)) b p (Do.Call g (frame.Call (Awaiting q x)) p) ws
  frees-next x g of by free account cause =
      waits-for scenes (frame.Call (Doing q c)) (frame.Call (Awaiting q x)) b ws p p g (record { stays = λ y l. l; free = λ y h. h; run = λ P h. h }) (later-same p) account tt (of, (by, free)) cause known

  planned-next : (plan : Plan) → May p plan → CausedBy p c plan → FineBy scenes (frame.Call (Doing q c)) b p (plan_step q plan p) ws
  planned-next (Does change None r) may cause = told-next r (changed_by change p) (follows p change may.0).later (cause scenes)
  planned-next (Does change (Some notice) r) may cause =
      goes-on scenes (frame.Call (Doing q c)) (frame.Call (Announcing (later q r) notice r)) b ws p (changed_by change p) (record { stays = λ y l. l; free = λ y h. h; run = λ P h. later-hook P q r h })
      (follows p change may.0).later tt (cause, may.2) known
  planned-next (Frees x) may cause = frees-next x (frame.Free (Beginning x)) refl cause.0 cause.1 tt refl
  planned-next (Unlinks o x) may cause = frees-next x (frame.Free (Unlinking o x)) refl cause.0 cause.1 tt refl
  planned-next (Empties x) may cause = frees-next x (frame.Free (Looping x Emptying)) refl cause.0 cause.1 tt tt
  planned-next (Asks outside) may cause =
      waits-for scenes (frame.Call (Doing q c)) (frame.Call (Turning q)) b ws p p (frame.Outside (Reaching outside)) (record { stays = λ y l. l; free = λ y h. h; run = λ P h. h }) (later-same p) tt tt cause may known
  planned-next (Turns x) may cause = turning-fine scenes q x c b ws p may known cause
  planned-next (Works change errand x) may cause = works errand may.3
    where
      begun-work : (g : RequestFrame) → Cause scenes (frame.Request g) None (with_note (Some begun) (frame.Call (Requesting q)) ∷ ws) (changed_by change p)
          → FineBy scenes (frame.Call (Doing q c)) b p (Do.Call (frame.Request g) (frame.Call (Requesting q)) (changed_by change p)) ws
      begun-work g cause-of =
          waits-for scenes (frame.Call (Doing q c)) (frame.Call (Requesting q)) b ws p (changed_by change p) (frame.Request g) (record { stays = λ y l. l; free = λ y h. h; run = λ P h. h }) (follows p change may.0).later tt tt cause
          cause-of known

      works : (errand : Errand) → MayWork (changed_by change p) errand x → FineBy scenes (frame.Call (Doing q c)) b p (plan_step q (Works change errand x) p) ws
      works (Finish s) work = begun-work (request.Finishing x s) tt
      works Receive work = begun-work (request.Receiving x) tt
      works Cancel work = begun-work (request.Cancelling x) tt
      works Notify work = absurd work

pub doing-fine : (scenes : List Scene) (q : Ask) (c : Call) (b : Option CallStart) (ws : List NotedWork) (p : Pool) → Sound (frame.Call (Doing q c)) (map work_of ws) p
    → Known scenes (with_note b (frame.Call (Doing q c))) ws p → FineBy scenes (frame.Call (Doing q c)) b p (step (frame.Call (Doing q c)) p) ws
doing-fine scenes q c b ws p s known = planned-next scenes q c b ws p known (planned_at q p c) (may-planned-at (frame.Call (Doing q c)) (map work_of ws) p s q c)
    (planned-at-by (CausedBy p c) q p c (caused-planned p c s.forest.distinct s.refers) (caused-nested q p c))
