-- A call comes to no other arm: it is none that begins a work, and none that makes an object.
use Rattle.std.proofs.Common.{◌≡◌, refl, subst, false}
use Rattle.tree_specs.specs.declared.call.Call.{Call}
use Rattle.tree_specs.specs.declared.call.Call.TheVariants.{Parent, Total, Count, Sum, Getflags, Pending, Length, Running, Iserror, Progress, Callback, Defer, Cleanup, Setcancel, Post, Start, Stop, Endtime, Unschedule, Schedule, Flags, Autoclose, Reparent, Hook, Unhook, Rename, Resize, Limit}
use Rattle.host_core.specs.Moves.{is_making, is_work}
use Rattle.host_core.proofs.calls.set_or_tell.Goals as goal

pub unreachable-requires : goal.unreachable-requires
unreachable-requires c = each c.args.call refl
  where
    each : (call : Call) → c.args.call ≡ call → ⊥
    each (Parent x) e = c.in_default.not-Parent x e
    each (Total owner) e = c.in_default.not-Total owner e
    each (Count owner) e = c.in_default.not-Count owner e
    each (Sum owner) e = c.in_default.not-Sum owner e
    each (Getflags x) e = c.in_default.not-Getflags x e
    each (Pending context) e = c.in_default.not-Pending context e
    each (Length queue) e = c.in_default.not-Length queue e
    each (Running queue) e = c.in_default.not-Running queue e
    each (Iserror x) e = c.in_default.not-Iserror x e
    each (Progress x) e = c.in_default.not-Progress x e
    each (Callback x routine user) e = c.in_default.not-Callback x routine user e
    each (Defer x context) e = c.in_default.not-Defer x context e
    each (Cleanup x routine) e = c.in_default.not-Cleanup x routine e
    each (Setcancel x routine) e = c.in_default.not-Setcancel x routine e
    each (Post x context) e = c.in_default.not-Post x context e
    each (Start queue) e = c.in_default.not-Start queue e
    each (Stop queue) e = c.in_default.not-Stop queue e
    each (Endtime x time context) e = c.in_default.not-Endtime x time context e
    each (Unschedule x) e = c.in_default.not-Unschedule x e
    each (Schedule x routine user context) e = c.in_default.not-Schedule x routine user context e
    each (Flags x flags) e = c.in_default.not-Flags x flags e
    each (Autoclose x) e = c.in_default.not-Autoclose x e
    each (Reparent from to x) e = c.in_default.not-Reparent from to x e
    each (Hook x routine) e = c.in_default.not-Hook x routine e
    each (Unhook x) e = c.in_default.not-Unhook x e
    each (Rename x name) e = c.in_default.not-Rename x name e
    each (Resize x size) e = c.in_default.not-Resize x size e
    each (Limit x max) e = c.in_default.not-Limit x max e
    each call e =
        let begins : is_work call ≡ false = subst (λ (k : Call). is_work k ≡ false) e c.requires.at_once in
        let makes : is_making call ≡ false = subst (λ (k : Call). is_making k ≡ false) e c.requires.same_objects in
        cc
