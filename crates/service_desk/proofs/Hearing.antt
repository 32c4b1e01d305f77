-- What is heard.
use Rattle.std.proofs.Common.{◌≡◌, ℕ, List, [], ◌∷◌, Option, Some, None, refl, sym, ◌∙◌, ap}
use Rattle.tree_specs.specs.declared.object.Obj.{Obj}
use Rattle.tree_specs.specs.declared.reply.Reply.{Reply}
use Rattle.tree_specs.specs.declared.reply.Reply.TheVariants as reply
use Rattle.service_rules.specs.declared.answer.Answer.{Answer}
use Rattle.service_rules.specs.declared.task.Accepting.{Accepting}
use Rattle.service_rules.specs.declared.task.Accepting.TheVariants as accepting
use Rattle.service_rules.specs.declared.task.Fulfilled.{Fulfilled}
use Rattle.service_rules.specs.declared.task.Fulfilled.TheVariants as fulfilled
use Rattle.service_rules.specs.declared.task.Notice.{Notice}
use Rattle.service_rules.specs.declared.task.Notifying.{Notifying}
use Rattle.service_rules.specs.declared.task.Notifying.TheVariants as notifying
use Rattle.service_rules.specs.declared.task.Run.{Run}
use Rattle.service_rules.specs.declared.task.Run.TheVariants.{Own, Outside}
use Rattle.service_rules.specs.declared.task.Serving.{Serving}
use Rattle.service_rules.specs.declared.task.Serving.TheVariants as serving
use Rattle.service_rules.specs.declared.task.Task.{Task}
use Rattle.service_rules.specs.declared.task.Task.TheVariants.{Accept, Serve, Notify, Trigger as Triggers, Return}
use Rattle.service_rules.specs.declared.task.Triggering.{Triggering}
use Rattle.service_rules.specs.Knowledge.{Connection, Knowledge, connection_of, with_connection, without_run, saying}
use Rattle.service_rules.specs.Answers.{answer_line}
use Rattle.service_rules.specs.Tasks.{after_accepting, after_fulfilling, after_writing, flags_to_set}
use Rattle.service_rules.specs.Routines.{Heard, then_does, accepted, ordered, sent, served, notified, serving_hears, notifying_hears, triggering_hears, hears, resumes}
use Rattle.service_desk.specs.Desks.{innermost_of, changed, changed_at}
use Rattle.service_desk.proofs.Connections.{found_put}

-- ---- a connection that is changed

changed-known : (s : Obj) (change : Connection → Connection) (old new : Knowledge) (c : Connection) → connection_of old s ≡ Some c → new ≡ changed s change old → new ≡ with_connection s (change c) old
changed-known s change old new c found is = is ∙ ap (λ (o : Option Connection). changed_at s change o old) found

changed-found : (s : Obj) (change : Connection → Connection) (old new : Knowledge) (c : Connection) → connection_of old s ≡ Some c → new ≡ changed s change old → connection_of new s ≡ Some (change c)
changed-found s change old new c found is = ap (λ (d : Knowledge). connection_of d s) (changed-known s change old new c found is) ∙ found_put s.0 (change c) old.connections

both-same : (d e : Knowledge) (t u : Task) → d ≡ e → t ≡ u → then_does d t ≡ then_does e u
both-same d e t u p q = ap (λ (k : Knowledge). then_does k t) p ∙ ap (then_does e) q

-- so many bytes went out
pub bytes-written : (s : Obj) (n : ℕ) (r : Reply) (old new : Knowledge) (t : Task) → r ≡ reply.Number n → new ≡ changed s (sent n) old → ((c : Connection) → connection_of new s ≡ Some c → t ≡ served s (after_writing c)) → (c : Connection) → connection_of old s ≡ Some c → then_does new t ≡ serving_hears old s serving.Write r (Some c)
bytes-written s n r old new t which is task c found =
    both-same new (with_connection s (sent n c) old) t (served s (after_writing (sent n c))) (changed-known s (sent n) old new c found is) (task (sent n c) (changed-found s (sent n) old new c found is))
    ∙ ap (λ (x : Reply). serving_hears old s serving.Write x (Some c)) (sym which)

-- a line has its answer at last
pub notice-answered : (n : Notice) (a : Answer) (at : Notifying) (r : Reply) (old new : Knowledge) (t : Task) → at ≡ notifying.Free a → new ≡ changed n.session (saying (answer_line n.tag a)) old → ((c : Connection) → connection_of new n.session ≡ Some c → t ≡ notified n (flags_to_set c)) → (c : Connection) → connection_of old n.session ≡ Some c → then_does new t ≡ notifying_hears old n at r (Some c)
notice-answered n a at r old new t which is task c found =
    let change : Connection → Connection = saying (answer_line n.tag a) in
    both-same new (with_connection n.session (change c) old) t (notified n (flags_to_set (change c))) (changed-known n.session change old new c found is) (task (change c) (changed-found n.session change old new c found is))
    ∙ ap (λ (x : Notifying). notifying_hears old n x r (Some c)) (sym which)

-- ---- the innermost run is over before what it hears, or after

abbrev without_its_run : Heard → Heard
without_its_run h = then_does (without_run h.knowledge) h.task

accepted-apart : (d : Knowledge) (at : Accepting) (r : Reply) → accepted (without_run d) at r ≡ without_run (accepted d at r)
accepted-apart d (accepting.Queue fd s e) (reply.Number n) = refl
accepted-apart d at r = refl

ordered-apart : (d : Knowledge) (s : Obj) (c : Connection) (tag : ℕ) (f : Fulfilled) → ordered (without_run d) s c tag f ≡ without_its_run (ordered d s c tag f)
ordered-apart d s c tag (fulfilled.Next at) = refl
ordered-apart d s c tag (fulfilled.Answered a) = refl
ordered-apart d s c tag (fulfilled.Kept request) = refl

serving-apart : (d : Knowledge) (s : Obj) (at : Serving) (r : Reply) (found : Option Connection) → serving_hears (without_run d) s at r found ≡ without_its_run (serving_hears d s at r found)
serving-apart d s at r None = refl
serving-apart d s serving.Read (reply.Bytes bytes) (Some c) = refl
serving-apart d s serving.Read r (Some c) = refl
serving-apart d s (serving.Order tag at) r (Some c) = ordered-apart d s c tag (after_fulfilling at r s)
serving-apart d s serving.Write (reply.Number n) (Some c) = refl
serving-apart d s serving.Write r (Some c) = refl
serving-apart d s serving.Flags r (Some c) = refl
serving-apart d s serving.Lines r (Some c) = refl
serving-apart d s serving.Leave r (Some c) = refl

notifying-apart : (d : Knowledge) (n : Notice) (at : Notifying) (r : Reply) (found : Option Connection) → notifying_hears (without_run d) n at r found ≡ without_its_run (notifying_hears d n at r found)
notifying-apart d n at r None = refl
notifying-apart d n notifying.Look r (Some c) = refl
notifying-apart d n (notifying.Receive a) r (Some c) = refl
notifying-apart d n (notifying.Free a) r (Some c) = refl
notifying-apart d n notifying.Flags r (Some c) = refl

triggering-apart : (d : Knowledge) (s : Obj) (at : Triggering) (r : Reply) (found : Option Connection) → triggering_hears (without_run d) s at r found ≡ without_its_run (triggering_hears d s at r found)
triggering-apart d s at r None = refl
triggering-apart d s at r (Some c) = refl

hears-apart : (d : Knowledge) (t : Task) (r : Reply) → hears (without_run d) t r ≡ without_its_run (hears d t r)
hears-apart d (Accept at) r = ap (λ (k : Knowledge). then_does k (after_accepting at r)) (accepted-apart d at r)
hears-apart d (Serve s at) r = serving-apart d s at r (connection_of d s)
hears-apart d (Notify n at) r = notifying-apart d n at r (connection_of d n.session)
hears-apart d (Triggers s at) r = triggering-apart d s at r (connection_of d s)
hears-apart d Return r = refl

pub own-resumed : (d mid new : Knowledge) (t next : Task) (r : Reply) → innermost_of d.runs ≡ Some (Own t) → then_does mid next ≡ hears d t r → new ≡ without_run mid → then_does new next ≡ resumes d r d.runs
own-resumed d mid new t next r own heard is = ap (λ (k : Knowledge). then_does k next) is ∙ ap without_its_run heard ∙ sym (hears-apart d t r) ∙ from_runs d.runs own
  where
    from_runs : (runs : List Run) → innermost_of runs ≡ Some (Own t) → hears (without_run d) t r ≡ resumes d r runs
    from_runs [] e = cc
    from_runs (Own u ∷ runs) e = let same : t ≡ u = cc in ap (λ (x : Task). hears (without_run d) x r) same
    from_runs (Outside ∷ runs) e = cc
