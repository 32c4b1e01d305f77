-- The rules of freeing as a table of single steps, one row for each kind of work.
use Rattle.std.specs.Prelude.{ℕ, nat_eq, Option, Some, None, unwrap_or, if◌then◌else◌}
use Rattle.step_machine.specs.Machine.{Move, Table}
use Rattle.step_machine.specs.Machine.{Move as Do}
use Rattle.tree_specs.specs.declared.object.Obj.{Obj}
use Rattle.tree_specs.specs.declared.object.Owner.{Owner}
use Rattle.tree_specs.specs.declared.object.Owner.TheVariants.{Root, Of}
use Rattle.tree_specs.specs.declared.kind.Kind.{Kind}
use Rattle.tree_specs.specs.declared.row.Row.{Row}
use Rattle.tree_specs.specs.declared.row.Mark.{Mark}
use Rattle.tree_specs.specs.declared.row.Mark.TheVariants as mark
use Rattle.tree_specs.specs.declared.frame.FreeFrame.{FreeFrame}
use Rattle.tree_specs.specs.declared.frame.FreeFrame.TheVariants.{Unlinking, Releasing, Giving, Beginning, Hooked, Judged, Preparing, Draining, Prepared, Dooming, Leaving, Looping, FreeingChild, AfterChild, Ending}
use Rattle.tree_specs.specs.declared.frame.Purpose.{Purpose}
use Rattle.tree_specs.specs.declared.frame.Purpose.TheVariants.{Removal, Emptying}
use Rattle.tree_specs.specs.declared.free_step.FreeReply.{FreeReply}
use Rattle.tree_specs.specs.declared.free_step.FreeReply.TheVariants as free_reply
use Rattle.tree_specs.specs.declared.free_step.FreeReply.TheVariants.{Ok, Held, Running}
use Rattle.tree_specs.specs.declared.free_step.FreeStep.{FreeStep}
use Rattle.tree_specs.specs.declared.free_step.FreeStep.TheVariants.{Ask as AskOf, Prepare, Drain, Dropped, Refused, Accepted, Doom, Left, Moved, Gone}
use Rattle.tree_specs.specs.Tree.Targets.{newest_ref}
use Rattle.tree_specs.specs.Tree.Pool.{Pool, row_of, is_below, owner_of, target_at, newest_ref_of, noted_owner, is_inside, first_kid, detach, remove, place, set_mark, doom, set_hook}
use Rattle.tree_specs.specs.Tree.Heirs.{heir}
use Rattle.tree_specs.specs.Calls.Refusals.{is_request, is_queue}

-- a step of a free by itself
abbrev pub FreeMove : Type 0
FreeMove = Move FreeFrame FreeReply Pool FreeStep

-- a quiet object with a destructor is asked, and any other leaves its owner
abbrev pub begin_plain : Obj → ℕ → Pool → FreeMove
begin_plain x h p = if nat_eq h 0 then Do.Go (Leaving x 0) p else Do.Go (Hooked x h) (set_mark p x mark.Asked)

-- the entries of a quiet queue are freed first
abbrev pub begin_unrequested : Obj → Kind → ℕ → Pool → FreeMove
begin_unrequested x k h p = if is_queue k then Do.Go (Draining x) (set_mark p x mark.Asked) else begin_plain x h p

-- a quiet request is received first
abbrev pub begin_quiet : Obj → Kind → ℕ → Pool → FreeMove
begin_quiet x k h p = if is_request k then Do.Go (Preparing x) (set_mark p x mark.Asked) else begin_unrequested x k h p

-- the freeing of an object begins, by what is going on with it
abbrev pub begin_by : Obj → Kind → ℕ → Mark → Pool → FreeMove
begin_by x k h mark.Quiet p = begin_quiet x k h p
begin_by x k h mark.Asked p = Do.Done Running p
begin_by x k h mark.Busy p = Do.Emit (Doom x) (Dooming x) (doom p x)
begin_by x k h mark.Doomed p = Do.Done Running p
begin_by x k h (mark.Dying former) p = Do.Done Ok p

abbrev pub begin_step : Obj → Option Row → Pool → FreeMove
begin_step x None p = Do.Done Ok p
begin_step x (Some r) p = begin_by x r.kind r.hook r.mark p

-- the newest reference is dropped: one from inside makes the freeing begin again, and one from outside holds the object
abbrev pub drop_step : Obj → Obj → Pool → FreeMove
drop_step x r p =
    if is_inside p.rows (Of r) (Of x) then Do.Emit (Dropped r x) (Beginning x) (remove p r)
    else Do.Emit (Dropped r x) (Ending Held) (remove p r)

-- an owner's newest reference to the object goes; an owner that has none gives the object up
abbrev pub unlink_step : Obj → Option Obj → Pool → FreeMove
unlink_step x None p = Do.Go (Releasing x) p
unlink_step x (Some r) p = Do.Emit (Dropped r x) (Ending Ok) (remove p r)

-- the newest reference is dropped; where it was inside the object the next one is looked at, and else its owner gets
-- the object
abbrev pub release_step : Obj → Option Obj → Pool → FreeMove
release_step x None p = Do.Go (Beginning x) p
release_step x (Some r) p =
    if is_inside p.rows (Of r) (Of x) then Do.Emit (Dropped r x) (Releasing x) (remove p r)
    else Do.Emit (Dropped r x) (Giving x (unwrap_or (owner_of p.rows r) Root)) (remove p r)

-- references come first
abbrev pub refs_step : Obj → Option Obj → Pool → FreeMove
refs_step x None p = begin_step x (row_of p.rows x) p
refs_step x (Some r) p = drop_step x r p

-- a destructor has accepted with 0, or refused with any other number
abbrev pub judge_step : Obj → ℕ → ℕ → Pool → FreeMove
judge_step x h v p =
    if nat_eq v 0 then Do.Emit (Accepted x) (Leaving x h) (set_hook p x 0)
    else Do.Emit (Refused x v) (Ending (free_reply.Refused v)) (set_mark p x mark.Quiet)

-- there are no more children
abbrev pub last_step : Obj → Purpose → Pool → FreeMove
last_step x (Removal h) p = Do.Emit (Gone x h) (Ending Ok) (remove p x)
last_step x Emptying p = Do.Done Ok p

-- a child that is a reference is dropped, and any other is freed
abbrev pub child_step : Obj → Obj → Purpose → Option Obj → Pool → FreeMove
child_step x c purpose None p = Do.Call (Beginning c) (FreeingChild x c (noted_owner p.rows c) purpose) p
child_step x c purpose (Some target) p = Do.Emit (Dropped c target) (Looping x purpose) (remove p c)

abbrev pub loop_step : Obj → Purpose → Option Obj → Pool → FreeMove
loop_step x purpose None p = last_step x purpose p
loop_step x purpose (Some c) p = child_step x c purpose (target_at p.rows c) p

-- a child that wasn't freed goes to its heir, where x still is its owner
abbrev pub hand_on_step : Obj → Obj → Option Owner → Purpose → Pool → FreeMove
hand_on_step x c noted purpose p =
    if is_below (owner_of p.rows c) (Of x)
    then Do.Emit (Moved c (Of x) (heir p.rows x c noted)) (Looping x purpose) (place p (heir p.rows x c noted) c)
    else Do.Go (Looping x purpose) p

abbrev pub tried_step : Obj → Obj → Option Owner → Purpose → FreeReply → Pool → FreeMove
tried_step x c noted purpose Ok p = Do.Go (Looping x purpose) p
tried_step x c noted purpose Held p = hand_on_step x c noted purpose p
tried_step x c noted purpose Running p = hand_on_step x c noted purpose p
tried_step x c noted purpose (free_reply.Refused v) p = hand_on_step x c noted purpose p

abbrev pub free_step : FreeFrame → Pool → FreeMove
free_step (Unlinking o x) p = unlink_step x (newest_ref_of p.rows o x) p
free_step (Releasing x) p = release_step x (newest_ref p.rows x) p
free_step (Giving x o) p = Do.Emit (Moved x (unwrap_or (owner_of p.rows x) Root) o) (Ending Ok) (place p o x)
free_step (Beginning x) p = refs_step x (newest_ref p.rows x) p
free_step (Hooked x h) p = Do.Wait (AskOf x) (Hooked x h) p
free_step (Judged x h v) p = judge_step x h v p
free_step (Preparing x) p = Do.Wait (Prepare x) (Preparing x) p
free_step (Draining x) p = Do.Wait (Drain x) (Draining x) p
free_step (Prepared x) p = Do.Go (Leaving x 0) (set_mark p x mark.Quiet)
free_step (Dooming x) p = Do.Done Running p
free_step (Leaving x h) p = Do.Emit (Left x (unwrap_or (owner_of p.rows x) Root)) (Looping x (Removal h)) (detach p x)
free_step (Looping x purpose) p = loop_step x purpose (first_kid p.rows (Of x)) p
-- it waits for the work above it
free_step (FreeingChild x c noted purpose) p = Do.Done Ok p
free_step (AfterChild x c noted purpose answer) p = tried_step x c noted purpose answer p
free_step (Ending answer) p = Do.Done answer p

abbrev pub free_resume : FreeFrame → FreeReply → FreeFrame
free_resume (FreeingChild x c noted purpose) answer = AfterChild x c noted purpose answer
free_resume f answer = f

-- a free that waits for a destructor, with the number that this returned
abbrev pub free_taken : FreeFrame → Pool → ℕ → Option FreeFrame
free_taken (Hooked x h) p v = Some (Judged x h v)
free_taken f p v = None

abbrev pub free_table : Table FreeFrame FreeReply Pool ℕ FreeStep
free_table = record { step = free_step; resume = free_resume; taken = free_taken }
