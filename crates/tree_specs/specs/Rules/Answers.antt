-- What answers lead to: the reply to a call that has freed, what a caller is asked next, and what comes of each answer.
use Rattle.std.specs.Prelude.{ℕ, ◌+◌, ◌-◌, ◌^◌, ◌&&◌, not, nat_lt, List, Option, Some, None, if◌then◌else◌}
use Rattle.tree_specs.specs.declared.object.Obj.{Obj}
use Rattle.tree_specs.specs.declared.call.Call.{Call}
use Rattle.tree_specs.specs.declared.reply.Refusal.TheVariants as refusal
use Rattle.tree_specs.specs.declared.reply.Reply.{Reply}
use Rattle.tree_specs.specs.declared.reply.Reply.TheVariants as reply
use Rattle.tree_specs.specs.declared.moment.Moment.{Moment}
use Rattle.tree_specs.specs.declared.moment.What.TheVariants.{Hook as ForHook}
use Rattle.tree_specs.specs.declared.wants.Want.{Want}
use Rattle.tree_specs.specs.declared.question.Ask.{Ask}
use Rattle.tree_specs.specs.declared.question.Ask.TheVariants as ask
use Rattle.tree_specs.specs.declared.question.Input.{Input}
use Rattle.tree_specs.specs.declared.free_step.FreeReply.{FreeReply}
use Rattle.tree_specs.specs.declared.free_step.FreeReply.TheVariants as free_reply
use Rattle.tree_specs.specs.declared.free_step.FreeReply.TheVariants.{Ok, Held, Running}
use Rattle.tree_specs.specs.Tree.Pool.{Pool}
use Rattle.tree_specs.specs.Words.Ranges.{is_sound_call, is_return, is_routine, is_time}
use Rattle.tree_specs.specs.Words.Wants.{is_wants}
use Rattle.tree_specs.specs.Calls.Given.{Given, given_to}
use Rattle.tree_specs.specs.Calls.Given.Given.{Calls, Returns, Tells, IsReady, Opens, Answers}
use Rattle.tree_specs.specs.Calls.Refusals.{is_open}

-- the reply to a call that frees
abbrev pub freed_reply : Obj → FreeReply → Reply
freed_reply x Ok = reply.Ok
freed_reply x Held = reply.No (refusal.Held x)
freed_reply x Running = reply.No (refusal.Running x)
freed_reply x (free_reply.Refused v) = reply.No (refusal.Refused x v)

-- the first moment in the run of a destructor
abbrev pub hook_moment : Obj → ℕ → Moment
hook_moment x h = record { what = ForHook; object = x; routine = h; user = 0; now = 0; flags = 0; step = 0; last = None }

-- the number of a later step; it stays at the greatest one
abbrev pub step_after : ℕ → ℕ
step_after k = if nat_lt k (2 ^ 32 - 1) then k + 1 else k

-- what a caller is asked after a call: the host's own caller for the next one, a routine what it does next
abbrev pub later : Ask → Reply → Ask
later (ask.Routine m) r = ask.Routine (record m { step = step_after m.step; last = Some r })
later ask.Quiet r = ask.Quiet
later ask.Clock r = ask.Clock
later (ask.Wait limit) r = ask.Wait limit
later (ask.Accept descriptor) r = ask.Accept descriptor
later (ask.Read descriptor most) r = ask.Read descriptor most
later (ask.Write descriptor bytes) r = ask.Write descriptor bytes

-- what was given leads to a call, or to the end of a routine's run, where its numbers have their ranges
abbrev pub led : {A : Type 0} → (Call → A) → (ℕ → A) → Option Given → Option A
led does returns None = None
led does returns (Some (Calls c)) = if is_sound_call c then Some (does c) else None
led does returns (Some (Returns v)) = if is_return v then Some (returns v) else None
led does returns given = None

abbrev pub heard : {A : Type 0} → Ask → (Call → A) → (ℕ → A) → Input → Option A
heard q does returns i = led does returns (given_to q i)

-- the time, where the clock was asked
abbrev pub told_time : {A : Type 0} → (ℕ → A) → Option Given → Option A
told_time timed (Some (Tells now)) = if is_time now then Some (timed now) else None
told_time timed given = None

abbrev pub clocked : {A : Type 0} → (ℕ → A) → Input → Option A
clocked timed i = told_time timed (given_to ask.Clock i)

-- what the outside has answered to a call: a descriptor that was accepted, which isn't open yet, or the reply
abbrev pub told_outside : {A : Type 0} → Pool → (ℕ → A) → (Reply → A) → Option Given → Option A
told_outside p opens hears (Some (Tells now)) = if is_time now then Some (hears (reply.Number now)) else None
told_outside p opens hears (Some (Opens fd)) = if is_routine fd && not (is_open p fd) then Some (opens fd) else None
told_outside p opens hears (Some (Answers r)) = Some (hears r)
told_outside p opens hears given = None

abbrev pub reached : {A : Type 0} → Pool → Ask → (ℕ → A) → (Reply → A) → Input → Option A
reached p q opens hears i = told_outside p opens hears (given_to q i)

-- the descriptors that are ready, where this was asked
abbrev pub told_ready : {A : Type 0} → (List Want → A) → Option Given → Option A
told_ready looked (Some (IsReady wants)) = if is_wants wants then Some (looked wants) else None
told_ready looked given = None

abbrev pub polled : {A : Type 0} → ℕ → (List Want → A) → Input → Option A
polled limit looked i = told_ready looked (given_to (ask.Wait limit) i)
