-- What the task of a session calls, where its connection is known.
use Rattle.std.proofs.Common.{◌≡◌, false, Some, refl, ap, ◌∙◌}
use Rattle.tree_specs.specs.declared.object.Obj.{Obj}
use Rattle.tree_specs.specs.Tree.Pool.{Pool}
use Rattle.service_rules.specs.declared.task.Notice.{Notice}
use Rattle.service_rules.specs.declared.task.Notifying.{Notifying}
use Rattle.service_rules.specs.declared.task.Serving.{Serving}
use Rattle.service_rules.specs.declared.task.Serving.TheVariants as serving
use Rattle.service_rules.specs.declared.task.Task.TheVariants.{Serve, Notify}
use Rattle.service_rules.specs.Knowledge.{Connection, Knowledge, connection_of}
use Rattle.service_rules.specs.Tasks.{serving_call, notifying_call}
use Rattle.service_rules.specs.Routines.{serves, notifies, doing, does}
use Rattle.service_desk.specs.Desks.{are_lines}

pub served_call : (p : Pool) (d : Knowledge) (s : Obj) (at : Serving) (c : Connection) → connection_of d s ≡ Some c → are_lines (Serve s at) ≡ false → does d p (Serve s at) ≡ doing d (Serve s at) (serving_call s c at)
served_call p d s at c found other = ap (serves d p s at) found ∙ by_task at other
  where
    by_task : (a : Serving) → are_lines (Serve s a) ≡ false → serves d p s a (Some c) ≡ doing d (Serve s a) (serving_call s c a)
    by_task serving.Read h = refl
    by_task serving.Lines h = cc
    by_task (serving.Order tag at) h = refl
    by_task serving.Write h = refl
    by_task serving.Flags h = refl
    by_task serving.Leave h = refl

pub notified_call : (p : Pool) (d : Knowledge) (n : Notice) (at : Notifying) (c : Connection) → connection_of d n.session ≡ Some c → does d p (Notify n at) ≡ doing d (Notify n at) (Some (notifying_call n c at))
notified_call p d n at c found = ap (notifies d n at) found
