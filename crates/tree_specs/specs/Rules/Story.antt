-- The rules of freeing, of destructors and of calls, and the story that they tell. Each turn hands on one less.
use Rattle.std.specs.Prelude.{ℕ, suc, zero, ◌+◌, ◌-◌, ◌*◌, nat_eq, nat_le, Bool, true, false, List, length, map, Option, Some, None, unwrap_or, if◌then◌else◌}
use Rattle.step_machine.specs.Machine.{Outcome, items as told_by}
use Rattle.tree_specs.specs.declared.object.Obj.{Obj}
use Rattle.tree_specs.specs.declared.object.Owner.TheVariants.{Root, Of}
use Rattle.tree_specs.specs.declared.object.Owner.{Owner}
use Rattle.tree_specs.specs.declared.row.Mark.TheVariants as mark
use Rattle.tree_specs.specs.declared.call.Call.{Call}
use Rattle.tree_specs.specs.declared.call.Call.TheVariants as call
use Rattle.tree_specs.specs.declared.frame.Errand.{Errand}
use Rattle.tree_specs.specs.declared.frame.Errand.TheVariants.{Finish, Notify, Receive, Cancel}
use Rattle.tree_specs.specs.declared.request.State.{State}
use Rattle.tree_specs.specs.declared.request.State.TheVariants.{Received}
use Rattle.tree_specs.specs.declared.notice.Notice.{Notice}
use Rattle.tree_specs.specs.declared.occasion.Occasion.{Occasion}
use Rattle.tree_specs.specs.declared.reply.Reply.{Reply}
use Rattle.tree_specs.specs.declared.reply.Reply.TheVariants as reply
use Rattle.tree_specs.specs.declared.event.Event.TheVariants.{Replied, Fired, Accepted, Refused, Moved, Freed}
use Rattle.tree_specs.specs.declared.moment.What.{What}
use Rattle.tree_specs.specs.declared.moment.What.TheVariants.{Immediate as ForImmediate, Descriptor as ForDescriptor, Callback as ForCallback, Cleanup as ForCleanup, Cancel as ForCancel, Trigger as ForTrigger}
use Rattle.tree_specs.specs.declared.handler.Handler.{Handler}
use Rattle.tree_specs.specs.declared.question.Ask.{Ask}
use Rattle.tree_specs.specs.declared.question.Ask.TheVariants as ask
use Rattle.tree_specs.specs.declared.question.Input.{Input}
use Rattle.tree_specs.specs.declared.free_step.FreeReply.{FreeReply}
use Rattle.tree_specs.specs.declared.free_step.FreeReply.TheVariants as free_reply
use Rattle.tree_specs.specs.declared.free_step.FreeReply.TheVariants.{Ok, Held, Running}
use Rattle.tree_specs.specs.Tree.Targets.{newest_ref}
use Rattle.tree_specs.specs.Tree.Pool.{Pool, empty, row_of, owner_of, newest_ref_of, target_at, noted_owner, first_kid, detach, remove, place, set_mark, doom, set_hook, soon_here, times_here, ring_here, exit, unschedule, open_descriptor, renote, schedule_deferred, finish, receive, run_queue, trigger}
use Rattle.tree_specs.specs.Events.Pending.{first}
use Rattle.tree_specs.specs.Events.Requests.{note_of, is_noted, is_unreceived, cleanup_in, cancel_in, cleaned as is_cleaned}
use Rattle.tree_specs.specs.Events.Queues.{has_queue, head_of, next_of}
use Rattle.tree_specs.specs.Rules.Errands.{reply_to, cancelled_reply, is_receive, after_routine}
use Rattle.tree_specs.specs.Events.Rotation.{first_ready}
use Rattle.tree_specs.specs.Events.Coming.{wait_limit, handler_for, handler_moment, with_flags, plainly, begun, goes_after, looks_again}
use Rattle.tree_specs.specs.Rules.Items.{Item}
use Rattle.tree_specs.specs.Rules.Items.Item.{Told, Asked}
use Rattle.tree_specs.specs.Calls.Plans.{planned, planned_at, notice_of}
use Rattle.tree_specs.specs.Calls.Refusals.{is_doomed}
use Rattle.tree_specs.specs.Rules.Answers.{hook_moment, later, heard, clocked, polled, reached}
use Rattle.tree_specs.specs.Rules.Sequence.{Work, Scene, CallStart, ◌>>=◌, ◌>>◌, gives, pool, change, tells, told_about, asks, short}
use Rattle.tree_specs.specs.Rules.Pieces.{turned, effect, work_by, comes, falls_due, enters, freed_quietly, hand_on_after, drops, lets_go, notice_event, from_newest, from_quiet}

abbrev mutual
  -- An owner's interest in an object is taken away: its newest reference to it is dropped, or it gives the object up.
  pub unlink : ℕ → Owner → Obj → Work FreeReply
  unlink zero o x = short
  unlink (suc n) o x = do
    p ← pool
    elim (newest_ref_of p.rows o x) [
      | Some r ↦ (do
        drops r x
        gives Ok)
      | None ↦ release n x
    ]

  -- Its owner gives an object up: to the owner of the newest reference that isn't inside it. Where there is none, it is
  -- freed.
  pub release : ℕ → Obj → Work FreeReply
  release zero x = short
  release (suc n) x = do
    p ← pool
    from_newest (newest_ref p.rows x) p x (release n x) (λ r. given n x (unwrap_or (owner_of p.rows r) Root)) (free n x)

  pub given : ℕ → Obj → Owner → Work FreeReply
  given zero x o = short
  given (suc n) x o = do
    tells (Told (Moved x o))
    change (λ p. place p o x)
    gives Ok

  -- An object is freed. The newest reference to it is dropped first: one from inside makes the freeing begin again, and
  -- one from outside holds the object. One that is dying is left to the free that it is in, and one that runs can't be
  -- freed now. With what is quiet it begins: a request is received first, the entries of a queue are freed first, and an
  -- object with a destructor is asked.
  pub free : ℕ → Obj → Work FreeReply
  free zero x = short
  free (suc n) x = do
    p ← pool
    from_newest (newest_ref p.rows x) p x (free n x) (λ r. gives Held) (elim (row_of p.rows x) [
      | None ↦ gives Ok
      | Some r ↦ elim r.mark [
        | mark.Quiet ↦ from_quiet r x (preparing n x) (draining n x) (hooked n x r.hook) (leave n x 0)
        | mark.Asked ↦ gives Running
        | mark.Busy ↦ (do
          lets_go x (λ q. doom q x)
          dooming n x)
        | mark.Doomed ↦ gives Running
        | mark.Dying former ↦ gives Ok
      ]
    ])

  -- a request is received, and then it leaves its owner as any other object
  pub preparing : ℕ → Obj → Work FreeReply
  preparing zero x = short
  preparing (suc n) x = do
    answer ← receiving n x
    prepared n x

  -- the entries of a queue are freed, and then it leaves its owner
  pub draining : ℕ → Obj → Work FreeReply
  draining zero x = short
  draining (suc n) x = do
    answer ← vacating n x
    prepared n x

  pub prepared : ℕ → Obj → Work FreeReply
  prepared zero x = short
  prepared (suc n) x = do
    change (λ p. set_mark p x mark.Quiet)
    leave n x 0

  -- its handler runs, and it is freed after it
  pub dooming : ℕ → Obj → Work FreeReply
  dooming zero x = short
  dooming (suc n) x = gives Running

  -- its destructor runs
  pub hooked : ℕ → Obj → ℕ → Work FreeReply
  hooked zero x h = short
  hooked (suc n) x h = do
    v ← asked n (ask.Routine (hook_moment x h))
    judged n x h v

  -- the destructor has accepted with 0, or refused with any other number
  pub judged : ℕ → Obj → ℕ → ℕ → Work FreeReply
  judged zero x h v = short
  judged (suc n) x h v = if nat_eq v 0
      then (do
        tells (Told (Accepted x))
        change (λ p. set_hook p x 0)
        leave n x h)
      else (do
        tells (Told (Refused x v))
        change (λ p. set_mark p x mark.Quiet)
        gives (free_reply.Refused v))

  -- it leaves its owner, its children are freed, and it is removed
  pub leave : ℕ → Obj → ℕ → Work FreeReply
  leave zero x h = short
  leave (suc n) x h = do
    lets_go x (λ p. detach p x)
    children n x
    tells (Told (Freed x h))
    change (λ p. remove p x)
    gives Ok

  -- while it has children, the first one is freed; one that is a reference is dropped
  pub children : ℕ → Obj → Work (Unit {0})
  children zero x = short
  children (suc n) x = do
    p ← pool
    elim (first_kid p.rows (Of x)) [
      | None ↦ gives tt
      | Some c ↦ elim (target_at p.rows c) [
        | Some target ↦ (do
          drops c target
          children n x)
        | None ↦ (do
          answer ← free n c
          tried n x c (noted_owner p.rows c) answer)
      ]
    ]

  -- a child that wasn't freed is handed on, and the next one is looked for
  pub tried : ℕ → Obj → Obj → Option Owner → FreeReply → Work (Unit {0})
  tried zero x c noted answer = short
  tried (suc n) x c noted answer = do
    hand_on_after x c noted answer
    children n x

  -- A caller is asked: the host's own for call after call, a routine for act after act until it returns.
  pub asked : ℕ → Ask → Work ℕ
  asked zero q = short
  asked (suc n) q = asks (Asked q) (heard q (acting n q) (returning n))

  pub acting : ℕ → Ask → Call → Work ℕ
  acting zero q c = short
  acting (suc n) q c = do
    p ← pool
    r ← effect (free n) (unlink n) (children n) (reaching n) (turned q (taking n)) (work_by (finishing n) (notifying n) (receiving n) (cancelling n)) (planned_at q p c)
    elim (notice_of (planned_at q p c)) [
      | None ↦ telling n (Some (record { call = c; start = p })) (later q r) r
      | Some notice ↦ announcing n (Some (record { call = c; start = p })) (later q r) notice r
    ]

  pub announcing : ℕ → Option CallStart → Ask → Notice → Reply → Work ℕ
  announcing zero about q notice r = short
  announcing (suc n) about q notice r = do
    tells (Told (notice_event notice))
    telling n about q r

  pub telling : ℕ → Option CallStart → Ask → Reply → Work ℕ
  telling zero about q r = short
  telling (suc n) about q r = do
    told_about about (Told (Replied r))
    asked n q

  pub returning : ℕ → ℕ → Work ℕ
  returning zero v = short
  returning (suc n) v = gives v

  -- A turn: one event, request or queue comes. It is the first of those that come soon, or else the one with the first time,
  -- where this has come: a request is notified, or times out, and the first entry of a queue is triggered. Where none has, it
  -- is asked which descriptors are ready, until then at the longest.
  pub taking : ℕ → Work ℕ
  taking zero = short
  taking (suc n) = do
    p ← pool
    elim (first (soon_here p)) [
      | Some y ↦ (do
        change (λ q. unschedule q y.object)
        comes (is_noted p.requests y.object) (notifying n y.object Notify) (closing n 1) (comes (has_queue p.queues y.object) (triggering n y.object) (closing n 1) (starting n ForImmediate y.object plainly)))
      | None ↦ elim (first (times_here p)) [
        | None ↦ polling n wait_limit
        | Some d ↦ if nat_eq d.time 0
            then falls_due p d.object 0 (finishing n) (closing n 1) (starting n)
            else timing n false
      ]
    ]

  -- the clock tells whether the first time has come
  pub timing : ℕ → Bool → Work ℕ
  timing zero again = short
  timing (suc n) again = asks (Asked ask.Clock) (clocked (timed n again))

  pub timed : ℕ → Bool → ℕ → Work ℕ
  timed zero again now = short
  timed (suc n) again now = do
    p ← pool
    elim (first (times_here p)) [
      | None ↦ closing n 0
      | Some d ↦ if nat_le d.time now
          then falls_due p d.object now (finishing n) (closing n 1) (starting n)
          else if again then closing n 0 else polling n (d.time - now)
    ]

  -- After a wait in which nothing was ready the clock is asked again, where an event has a time. Otherwise the first event
  -- comes that waits for what its descriptor is ready for.
  pub polling : ℕ → ℕ → Work ℕ
  polling zero limit = short
  polling (suc n) limit = asks (Asked (ask.Wait limit)) (polled limit (λ wants. do
    p ← pool
    if looks_again p wants then timing n true else elim (first_ready (ring_here p) wants) [
      | None ↦ closing n 0
      | Some r ↦ starting n ForDescriptor r.object (with_flags r.flags)
    ]))

  -- an event with a handler is busy, and its handler runs
  pub starting : ℕ → What → Obj → Occasion → Work ℕ
  starting zero what x occasion = short
  starting (suc n) what x occasion = do
    p ← pool
    elim (handler_for p what x) [
      | None ↦ closing n 1
      | Some handler ↦ (do
        change (λ q. begun what x q)
        firing n what x handler occasion)
    ]

  pub firing : ℕ → What → Obj → Handler → Occasion → Work ℕ
  firing zero what x handler occasion = short
  firing (suc n) what x handler occasion = do
    tells (Told (Fired what x handler.routine))
    handling n what x handler occasion

  pub handling : ℕ → What → Obj → Handler → Occasion → Work ℕ
  handling zero what x handler occasion = short
  handling (suc n) what x handler occasion = do
    v ← asked n (ask.Routine (handler_moment what x handler occasion))
    handled n what x

  -- nothing goes on with it any more; a timer is freed, and so is what was to be freed meanwhile
  pub handled : ℕ → What → Obj → Work ℕ
  handled zero what x = short
  handled (suc n) what x = do
    p ← pool
    change (λ q. set_mark q x mark.Quiet)
    if goes_after p what x
        then (do
          answer ← free n x
          closing n 1)
        else closing n 1

  -- A request goes to a state and has no end time any more. Its cleanup runs, and then whoever waits for it is notified.
  pub finishing : ℕ → Obj → State → Work Reply
  finishing zero x state = short
  finishing (suc n) x state = do
    enters x state (λ p. finish p x state)
    cleaning n x (Finish state)

  -- A request is received, once: it comes no more and has no end time. Its cleanup runs, and then the object that it was made
  -- with is freed.
  pub receiving : ℕ → Obj → Work Reply
  receiving zero x = short
  receiving (suc n) x = do
    p ← pool
    if is_unreceived (note_of p.requests x)
        then (do
          enters x Received (λ q. receive q x)
          cleaning n x Receive)
        else over n (reply_to Receive)

  -- the routine runs that cancels a request, where it has one and wasn't received
  pub cancelling : ℕ → Obj → Work Reply
  cancelling zero x = short
  cancelling (suc n) x = do
    p ← pool
    elim (cancel_in (note_of p.requests x)) [
      | None ↦ over n (cancelled_reply 0)
      | Some handler ↦ calling n ForCancel x handler Cancel
    ]

  -- a cleanup runs once for each state
  pub cleaning : ℕ → Obj → Errand → Work Reply
  cleaning zero x errand = short
  cleaning (suc n) x errand = do
    p ← pool
    elim (cleanup_in (note_of p.requests x)) [
      | None ↦ cleaned n x errand
      | Some handler ↦ (do
        change (λ q. renote q x is_cleaned)
        calling n ForCleanup x handler errand)
    ]

  -- after its cleanup nothing more is done for a request that is no more
  pub cleaned : ℕ → Obj → Errand → Work Reply
  cleaned zero x errand = short
  cleaned (suc n) x errand = do
    p ← pool
    elim (note_of p.requests x) [
      | None ↦ over n (reply_to errand)
      | Some note ↦ if is_receive errand
          then freed_quietly (free n) (unlink n) (over n (reply_to errand)) (planned p (call.Free note.child))
          else notifying n x errand
    ]

  -- a request whose callback is deferred comes soon, in a context that is kept for this; otherwise its callback runs, where it has one
  pub notifying : ℕ → Obj → Errand → Work Reply
  notifying zero x errand = short
  notifying (suc n) x errand = do
    p ← pool
    elim (note_of p.requests x) [
      | None ↦ over n (reply_to errand)
      | Some note ↦ elim note.deferred [
        | Some c ↦ (do
          change (λ q. schedule_deferred q x c)
          over n (reply_to errand))
        | None ↦ elim note.callback [
          | None ↦ over n (reply_to errand)
          | Some handler ↦ calling n ForCallback x handler errand
        ]
      ]
    ]

  -- a routine of a request runs
  pub calling : ℕ → What → Obj → Handler → Errand → Work Reply
  calling zero what x handler errand = short
  calling (suc n) what x handler errand = do
    tells (Told (Fired what x handler.routine))
    called n what x handler errand

  pub called : ℕ → What → Obj → Handler → Errand → Work Reply
  called zero what x handler errand = short
  called (suc n) what x handler errand = do
    v ← asked n (ask.Routine (handler_moment what x handler plainly))
    after_routine what (cleaned n x errand) (over n (cancelled_reply v)) (over n (reply_to errand))

  -- A queue is to be freed. It doesn't run any more, and its entries are freed before it, the first one first.
  pub vacating : ℕ → Obj → Work Reply
  vacating zero q = short
  vacating (suc n) q = do
    p ← pool
    change (λ p'. run_queue p' q false)
    elim (head_of p.queues q) [
      | None ↦ over n reply.Ok
      | Some h ↦ (do
        answer ← free n h.object
        vacating n q)
    ]

  -- the trigger of a queue's first entry runs for the request, where the queue runs and this waits for it
  pub triggering : ℕ → Obj → Work Reply
  triggering zero q = short
  triggering (suc n) q = do
    p ← pool
    elim (next_of p.queues q) [
      | None ↦ over n reply.Ok
      | Some h ↦ (do
        tells (Told (Fired ForTrigger h.entry.request h.entry.trigger.routine))
        change (λ p'. trigger p' h)
        called n ForTrigger h.entry.request h.entry.trigger Notify)
    ]

  pub over : ℕ → Reply → Work Reply
  over zero r = short
  over (suc n) r = gives r

  -- The outside is asked for a call, and what it answers is the reply. A descriptor that was accepted is open from then on.
  pub reaching : ℕ → Ask → Work Reply
  reaching zero q = short
  reaching (suc n) q = do
    p ← pool
    asks (Asked q) (reached p q (opening n) (hearing n))

  pub opening : ℕ → ℕ → Work Reply
  opening zero fd = short
  opening (suc n) fd = do
    change (λ p. open_descriptor p fd)
    gives (reply.Number fd)

  pub hearing : ℕ → Reply → Work Reply
  hearing zero r = short
  hearing (suc n) r = gives r

  -- The turn is over. Its context is quiet again, or is freed where this was to be done meanwhile.
  pub closing : ℕ → ℕ → Work ℕ
  closing zero v = short
  closing (suc n) v = do
    p ← pool
    elim p.turning [
      | None ↦ gives v
      | Some c ↦ (do
        change (λ q. exit q c)
        if is_doomed p c
            then (do
              answer ← free n c
              closing n v)
            else gives v)
    ]

-- turns enough for r rows and a inputs
abbrev pub turns : ℕ → ℕ → ℕ
turns r a = 64 * (a + 1) * ((r + 2 * a + 2) * (r + 2 * a + 2))

-- what comes of these inputs, from an empty pool whose next number is `first`
abbrev pub outcome : ℕ → List Input → Outcome ℕ Pool Input Scene
outcome first is = asked (turns 0 (length is)) ask.Quiet (empty first) is

-- the story
abbrev pub story : ℕ → List Input → List Scene
story first is = told_by (outcome first is)

-- its items
abbrev pub items : List Scene → List Item
items scenes = map (λ s. s.item) scenes
