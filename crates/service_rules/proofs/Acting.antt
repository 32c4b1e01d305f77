-- What a task of the service's does next keeps what goes out.
use Rattle.std.proofs.Common.{◌≡◌, ℕ, List, [], ◌∷◌, take, Option, Some, None, refl, sym, ap, subst}
use Rattle.tree_specs.specs.declared.bounds.TheConstants.{OCTETS_LIMIT}
use Rattle.tree_specs.specs.declared.object.Obj.{Obj}
use Rattle.tree_specs.specs.declared.call.Call.{Call}
use Rattle.tree_specs.specs.declared.call.Call.TheVariants as call
use Rattle.tree_specs.specs.declared.frame.Frame.{Frame}
use Rattle.tree_specs.specs.Tree.Pool.{Pool}
use Rattle.service_rules.specs.declared.order.Order.{Order}
use Rattle.service_rules.specs.declared.order.Order.TheVariants as order
use Rattle.service_rules.specs.declared.task.Accepting.TheVariants as accepting
use Rattle.service_rules.specs.declared.task.Fulfilling.{Fulfilling}
use Rattle.service_rules.specs.declared.task.Fulfilling.TheVariants as fulfilling
use Rattle.service_rules.specs.declared.task.Notice.{Notice}
use Rattle.service_rules.specs.declared.task.Notifying.{Notifying}
use Rattle.service_rules.specs.declared.task.Notifying.TheVariants as notifying
use Rattle.service_rules.specs.declared.task.Serving.{Serving}
use Rattle.service_rules.specs.declared.task.Serving.TheVariants as serving
use Rattle.service_rules.specs.declared.task.Task.{Task}
use Rattle.service_rules.specs.declared.task.Task.TheVariants as task
use Rattle.service_rules.specs.declared.task.Triggering.{Triggering}
use Rattle.service_rules.specs.declared.task.Triggering.TheVariants as triggering
use Rattle.service_rules.specs.Knowledge.{Connection, Knowledge, connection_of, with_connection}
use Rattle.service_rules.specs.Lines.{IsServed}
use Rattle.service_rules.specs.Tasks.{after_reading, serving_call, write_call, fulfilling_call, notifying_call, triggering_call}
use Rattle.service_rules.specs.Routines.{Next, Progress, does, doing, serves, serving_on, goes_on, notifies, order_call, fulfilling_for, progress_of, progressed}
use Rattle.service_rules.specs.Routines.Next.{Does, Returns}
use Rattle.service_rules.specs.Sent.{Ledger}
use Rattle.service_rules.proofs.Entries.{found-put}
use Rattle.service_rules.proofs.Owing.{IsKnown, Goes, whole, Keeps, Before, IsCallOf, IsNoWrite, Below}
use Rattle.service_rules.proofs.Growing.{speaks, Appends, appends-then, appends-put, appends-becomes, became-goes, became-keeps, free-still, session-still}
use Rattle.service_rules.proofs.Served.{IfWanted, progress-served, within-no-write}

-- after an answer nothing is on its way
pub record Settled (d : Knowledge) (l : Ledger) (next : ℕ) (fs : List Frame) (e : Knowledge) : Type 0 where
  pub keeps : Keeps e (speaks l d e) next
  pub goes : Goes e (speaks l d e) whole
  pub below : Below fs e.runs

abbrev pub ActsFine : Knowledge → Ledger → ℕ → List Frame → Next → Type 0
ActsFine d l next fs (Does c t e) = Settled d l next fs e × Before e (speaks l d e) next t × IsCallOf e c t
ActsFine d l next fs (Returns e) = Settled d l next fs e

module _ (d : Knowledge) (l : Ledger) (next : ℕ) (fs : List Frame) where
  pub doing-acts : (e : Knowledge) (t : Task) (o : Option Call) → Settled d l next fs e → Before e (speaks l d e) next t → ((c : Call) → o ≡ Some c → IsCallOf e c t) → ActsFine d l next fs (doing e t o)
  doing-acts e t None s b h = s
  doing-acts e t (Some c) s b h = (s, b, h c refl)

  abbrev IfCall : Knowledge → Task → Option Call → Type 0
  IfCall e t None = Unit {0}
  IfCall e t (Some c) = IsCallOf e c t

  if-call : (e : Knowledge) (t : Task) (o : Option Call) → IfCall e t o → (c : Call) → o ≡ Some c → IsCallOf e c t
  if-call e t None h c is = cc
  if-call e t (Some b) h c is = let i : b ≡ c = cc in subst (λ (z : Call). IsCallOf e z t) i h

  order-call-of : (e : Knowledge) (s queue : Obj) (tag : ℕ) (at : Fulfilling) → IfCall e (task.Serve s (serving.Order tag at)) (fulfilling_call s queue at)
  order-call-of e s queue tag fulfilling.Call = tt
  order-call-of e s queue tag fulfilling.Parent = tt
  order-call-of e s queue tag (fulfilling.Sleep delay) = tt
  order-call-of e s queue tag (fulfilling.Now request delay) = tt
  order-call-of e s queue tag (fulfilling.EndTime request now delay) = tt
  order-call-of e s queue tag (fulfilling.Job delay) = tt
  order-call-of e s queue tag (fulfilling.Enqueue request delay) = tt
  order-call-of e s queue tag (fulfilling.Callback request) = tt
  order-call-of e s queue tag (fulfilling.Undo request why) = tt

  first-call-of : (e : Knowledge) (s : Obj) (c : Connection) (tag : ℕ) (o : Order) → IsServed o → IfCall e (task.Serve s (serving.Order tag (fulfilling_for o))) (order_call s c o)
  first-call-of e s c tag (order.Call (call.Parent x)) h = tt
  first-call-of e s c tag (order.Call b) h = within-no-write s b h
  first-call-of e s c tag (order.Sleep n) h = tt
  first-call-of e s c tag (order.Job n) h = tt

  pub serving-acts : (e : Knowledge) (s : Obj) (c : Connection) (at : Serving) → Settled d l next fs e → IsKnown e s.0 c → ActsFine d l next fs (doing e (task.Serve s at) (serving_call s c at))
  serving-acts e s c serving.Read settled known = (settled, tt, tt)
  serving-acts e s c serving.Lines settled known = settled
  serving-acts e s c (serving.Order tag at) settled known = doing-acts e (task.Serve s (serving.Order tag at)) (fulfilling_call s c.queue at) settled tt (if-call e (task.Serve s (serving.Order tag at)) (fulfilling_call s c.queue at) (order-call-of e s c.queue tag at))
  serving-acts e s c serving.Write settled known = each c.unsent refl
    where
      each : (u : List ℕ) → c.unsent ≡ u → ActsFine d l next fs (doing e (task.Serve s serving.Write) (write_call c.descriptor u))
      each [] is = settled
      each (b ∷ bs) is = (settled, tt, (c, known, ap (λ (u : List ℕ). call.Write c.descriptor (take OCTETS_LIMIT u)) (sym is)))
  serving-acts e s c serving.Flags settled known = (settled, tt, tt)
  serving-acts e s c serving.Leave settled known = (settled, tt, tt)

  pub on-acts : (e : Knowledge) (s : Obj) (c : Connection) (o : Option Serving) → Settled d l next fs e → IsKnown e s.0 c → ActsFine d l next fs (serving_on e s c o)
  on-acts e s c None settled known = settled
  on-acts e s c (Some at) settled known = serving-acts e s c at settled known

  module _ (keeps : Keeps d l next) (goes : Goes d l whole) where
    pub settles : (e : Knowledge) → Appends d e → Below fs e.runs → Settled d l next fs e
    settles e a below = let b = appends-becomes d e l next keeps a in record { keeps = became-keeps d l next 0 whole e b keeps; goes = became-goes d l next 0 whole e b goes; below = below }

    before-still : (e : Knowledge) → Appends d e → (t : Task) → Before d l next t → Before e (speaks l d e) next t
    before-still e a (task.Accept (accepting.Session fd)) b = free-still d e l fd a b
    before-still e a (task.Accept (accepting.Event fd s)) b = (free-still d e l fd a b.0, session-still d e l next s.0 a b.1)
    before-still e a (task.Accept (accepting.Autoclose fd s x)) b = (free-still d e l fd a b.0, session-still d e l next s.0 a b.1)
    before-still e a (task.Accept (accepting.Queue fd s x)) b = (free-still d e l fd a b.0, session-still d e l next s.0 a b.1)
    before-still e a (task.Accept accepting.Accept) b = tt
    before-still e a (task.Accept (accepting.Abandon fd s)) b = tt
    before-still e a (task.Accept (accepting.Close fd)) b = tt
    before-still e a (task.Accept (accepting.Free s)) b = tt
    before-still e a (task.Serve s at) b = tt
    before-still e a (task.Notify n at) b = tt
    before-still e a (task.Trigger s at) b = tt
    before-still e a task.Return b = tt

    notifying-no-write : (n : Notice) (c : Connection) (at : Notifying) → IsNoWrite (notifying_call n c at)
    notifying-no-write n c notifying.Look = tt
    notifying-no-write n c (notifying.Receive a) = tt
    notifying-no-write n c (notifying.Free a) = tt
    notifying-no-write n c notifying.Flags = tt

    triggering-no-write : (at : Triggering) → IsNoWrite (triggering_call at)
    triggering-no-write (triggering.Now x delay) = tt
    triggering-no-write (triggering.EndTime x now delay) = tt
    triggering-no-write (triggering.Oom x) = tt

    lines-acts : (p : Pool) (e : Knowledge) (s : Obj) (c : Connection) → Appends d e → Below fs e.runs → IsKnown e s.0 c → ActsFine d l next fs (serves e p s serving.Lines (Some c))
    lines-acts p e s c a below known = each w.wanted (progress-served p s c)
      where
        w : Progress
        w = progress_of p s c

        c' : Connection
        c' = progressed w c

        e' : Knowledge
        e' = with_connection s c' e

        settled : Settled d l next fs e'
        settled = settles e' (appends-then d e e' a (appends-put e s c' c w.said known refl refl)) below

        each : (o : Option (ℕ × Order)) → IfWanted o → ActsFine d l next fs (goes_on e' s c' o)
        each None h = on-acts e' s c' (after_reading c') settled (found-put s.0 c' e.connections)
        each (Some (tag, o)) h = doing-acts e' (task.Serve s (serving.Order tag (fulfilling_for o))) (order_call s c' o) settled tt (if-call e' (task.Serve s (serving.Order tag (fulfilling_for o))) (order_call s c' o) (first-call-of e' s c' tag o h))

    pub does-acts : (p : Pool) (e : Knowledge) (t : Task) → Appends d e → Below fs e.runs → Before d l next t → ActsFine d l next fs (does e p t)
    does-acts p e (task.Accept at) a below b = (settles e a below, before-still e a (task.Accept at) b, refl)
    does-acts p e (task.Serve s at) a below b = each at (connection_of e s) refl
      where
        each : (at : Serving) (o : Option Connection) → connection_of e s ≡ o → ActsFine d l next fs (serves e p s at o)
        each at None known = settles e a below
        each serving.Lines (Some c) known = lines-acts p e s c a below known
        each serving.Read (Some c) known = serving-acts e s c serving.Read (settles e a below) known
        each (serving.Order tag at) (Some c) known = serving-acts e s c (serving.Order tag at) (settles e a below) known
        each serving.Write (Some c) known = serving-acts e s c serving.Write (settles e a below) known
        each serving.Flags (Some c) known = serving-acts e s c serving.Flags (settles e a below) known
        each serving.Leave (Some c) known = serving-acts e s c serving.Leave (settles e a below) known
    does-acts p e (task.Notify n at) a below b = each (connection_of e n.session)
      where
        each : (o : Option Connection) → ActsFine d l next fs (notifies e n at o)
        each None = settles e a below
        each (Some c) = (settles e a below, tt, notifying-no-write n c at)
    does-acts p e (task.Trigger s at) a below b = (settles e a below, tt, triggering-no-write at)
    does-acts p e task.Return a below b = settles e a below
