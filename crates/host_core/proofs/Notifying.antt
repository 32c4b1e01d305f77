-- The steps of a request's work, by what it is to do.
use Rattle.std.proofs.Common.{◌≡◌, ◌⊎◌, inl, inr, Option, Some, None, refl, sym, ◌∙◌, ap}
use Rattle.step_machine.specs.Machine.{Move as Do}
use Rattle.tree_specs.specs.declared.frame.Errand.{Errand}
use Rattle.tree_specs.specs.declared.handler.Handler.{Handler}
use Rattle.tree_specs.specs.declared.moment.What.TheVariants.{Callback as ForCallback}
use Rattle.tree_specs.specs.declared.object.Obj.{Obj}
use Rattle.tree_specs.specs.declared.request.Note.{Note}
use Rattle.tree_specs.specs.Events.Requests.{note_of}
use Rattle.tree_specs.specs.Machine.Table.{Step, over_step, calling_one, callback_step, deferred_step, notifying_step}
use Rattle.tree_specs.specs.Tree.Pool.{Pool, schedule_deferred}
use Rattle.requests.specs.declared.requests.Notify.{Notify}
use Rattle.requests.specs.declared.requests.Notify.TheVariants.{Post, Run, Nothing}
use Rattle.requests.specs.Register.{callback_runs, notify_of, posts}
use Rattle.object_pool.specs.Objects.{Objects}
use Rattle.object_pool.specs.Requests.{notifying}

-- what is done where a request is over
abbrev pub notify_step : Notify → Obj → Errand → Pool → Step
notify_step (Post c) x errand p = over_step errand (schedule_deferred p x c)
notify_step (Run handler) x errand p = Do.Go (calling_one ForCallback x handler errand) p
notify_step Nothing x errand p = over_step errand p

called-back : (o : Option Handler) (x : Obj) (errand : Errand) (p : Pool) → callback_step x errand o p ≡ notify_step (callback_runs o) x errand p
called-back None x errand p = refl
called-back (Some handler) x errand p = refl

pub notified : (o : Option Note) (x : Obj) (errand : Errand) (p : Pool) → notifying_step x errand o p ≡ notify_step (notify_of o) x errand p
notified None x errand p = refl
notified (Some n) x errand p = each n.deferred
  where
    each : (o : Option Obj) → deferred_step x errand o n.callback p ≡ notify_step (posts o (callback_runs n.callback)) x errand p
    each None = called-back n.callback x errand p
    each (Some c) = refl

-- a request whose callback is deferred comes soon, and its errand is over
posted : (x c : Obj) (errand : Errand) (n : Notify) (old new : Objects) → n ≡ notify_of (note_of old.pool.requests x) → n ≡ Post c → new ≡ notifying x n old → over_step errand new.pool ≡ notifying_step x errand (note_of old.pool.requests x) old.pool
posted x c errand n old new r is left =
    let left' : new ≡ notifying x (Post c) old = rw is at left in
    rw left' (sym (notified (note_of old.pool.requests x) x errand old.pool ∙ ap (λ (z : Notify). notify_step z x errand old.pool) (sym r ∙ is)))

-- and so it is where nobody waits for it
pub notified_over : (x : Obj) (errand : Errand) (n : Notify) (old new : Objects) → n ≡ notify_of (note_of old.pool.requests x) → ((c : Obj) × (n ≡ Post c)) ⊎ (n ≡ Nothing) → new ≡ notifying x n old → over_step errand new.pool ≡ notifying_step x errand (note_of old.pool.requests x) old.pool
notified_over x errand n old new r (inl is) left = posted x is.0 errand n old new r is.1 left
notified_over x errand n old new r (inr is) left =
    let left' : new ≡ old = rw is at left in
    rw left' (sym (notified (note_of old.pool.requests x) x errand old.pool ∙ ap (λ (z : Notify). notify_step z x errand old.pool) (sym r ∙ is)))

-- all but the objects and the memory for a call stays
pub notifying-rest : (x : Obj) (n : Notify) (o : Objects) → notifying x n o ≡ record o { pool = (notifying x n o).pool; ready = (notifying x n o).ready }
notifying-rest x (Post c) o = refl
notifying-rest x _ o = refl
