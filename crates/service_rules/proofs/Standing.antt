-- What goes out still does where less is known, where numbers were taken, and where a work ends.
use Rattle.std.proofs.Common.{◌≡◌, ℕ, ◌<◌, ◌≤◌, T, not, List, [], ◌∷◌, None, refl, sym, subst, arith}
use Rattle.std.specs.Ordering.{nat_cmp, eq_by_cmp}
use Rattle.std.specs.FinMap.Entries.{find, is_sorted, is_sorted-where_key}
use Rattle.tree_specs.specs.declared.event.Event.{Event}
use Rattle.tree_specs.specs.declared.event.Event.TheVariants as event
use Rattle.tree_specs.specs.declared.reply.Reply.{Reply}
use Rattle.tree_specs.specs.declared.reply.Reply.TheVariants as reply
use Rattle.tree_specs.specs.declared.question.Ask.{Ask}
use Rattle.tree_specs.specs.declared.question.Ask.TheVariants as ask
use Rattle.tree_specs.specs.declared.frame.Frame.{Frame}
use Rattle.tree_specs.specs.declared.frame.Frame.TheVariants as frame
use Rattle.tree_specs.specs.declared.frame.CallFrame.TheVariants.{Asking, Doing, Awaiting, Turning, Requesting, Announcing, Telling, Returning}
use Rattle.tree_specs.specs.declared.frame.Answer.{Answer}
use Rattle.tree_specs.specs.Rules.Answers.{freed_reply}
use Rattle.tree_specs.specs.Machine.Table.{resume, reply_in, heard_in}
use Rattle.service_rules.specs.declared.task.Accepting.TheVariants as accepting
use Rattle.service_rules.specs.declared.task.Fulfilling.TheVariants as fulfilling
use Rattle.service_rules.specs.declared.task.Run.{Run}
use Rattle.service_rules.specs.declared.task.Run.TheVariants.{Own, Outside}
use Rattle.service_rules.specs.declared.task.Serving.TheVariants as serving
use Rattle.service_rules.specs.declared.task.Task.{Task}
use Rattle.service_rules.specs.declared.task.Task.TheVariants as task
use Rattle.service_rules.specs.Knowledge.{Connection, Knowledge}
use Rattle.service_rules.specs.Tasks.{after_accepting}
use Rattle.service_rules.specs.Service.{told}
use Rattle.service_rules.specs.Sent.{Bytes, Ledger}
use Rattle.service_rules.proofs.Entries.{found-without, none-without}
use Rattle.service_rules.proofs.Owing.{IsKnown, Goes, whole, Keeps, FreeFd, FreeSession, Before, Accepted, After, rest_by, IsCalm, Top, Below, Rest, ToldTo, Stands, Fine}

-- ---- later numbers

pub keeps-later : (d : Knowledge) (l : Ledger) (n m : ℕ) → n ≤ m → Keeps d l n → Keeps d l m
keeps-later d l n m h k = record { sorted = k.sorted; distinct = k.distinct; young = λ x i. k.young x (omega (arith, h, i)); unsaid = λ x i. k.unsaid x (omega (arith, h, i)) }

pub session-later : (d : Knowledge) (l : Ledger) (n m s : ℕ) → n ≤ m → FreeSession d l n s → FreeSession d l m s
session-later d l n m s h f = let i : s < n = f.0 in ((omega (arith, h, i)), f.1, f.2)

-- ---- less is known

pub record Fewer (d e : Knowledge) : Type 0 where
  pub sorted : T (is_sorted nat_cmp d.connections) → T (is_sorted nat_cmp e.connections)
  pub none : (k : ℕ) → find nat_cmp k d.connections ≡ None → find nat_cmp k e.connections ≡ None
  pub known : (k : ℕ) (c : Connection) → IsKnown e k c → IsKnown d k c
  pub runs : e.runs ≡ d.runs

fewer-same : (d : Knowledge) → Fewer d d
fewer-same d = record { sorted = λ h. h; none = λ k h. h; known = λ k c h. h; runs = refl }

pub fewer-told : (d : Knowledge) (e : Event) → Fewer d (told d e)
fewer-told d (event.Freed x hook) = record {
  sorted = λ h. is_sorted-where_key nat_cmp (λ k. not (eq_by_cmp nat_cmp x.0 k)) d.connections h;
  none = λ k h. none-without k x d.connections h;
  known = λ k c h. found-without k x d.connections c h;
  runs = refl;
}
fewer-told d _ = fewer-same d

module _ (d e : Knowledge) (l : Ledger) (next : ℕ) (f : Fewer d e) where
  pub keeps-fewer : Keeps d l next → Keeps e l next
  keeps-fewer k = record {
    sorted = f.sorted k.sorted;
    distinct = λ i j c b h g same. k.distinct i j c b (f.known i c h) (f.known j b g) same;
    young = λ x h. f.none x (k.young x h);
    unsaid = k.unsaid;
  }

  pub goes-fewer : (rest : ℕ → Bytes → Bytes) → Goes d l rest → Goes e l rest
  goes-fewer rest g k c h = g k c (f.known k c h)

  fd-fewer : (fd : ℕ) → FreeFd d l fd → FreeFd e l fd
  fd-fewer fd x = ((λ k c h. x.0 k c (f.known k c h)), x.1)

  session-fewer : (s : ℕ) → FreeSession d l next s → FreeSession e l next s
  session-fewer s x = (x.0, f.none s x.1, x.2)

  pub before-fewer : (t : Task) → Before d l next t → Before e l next t
  before-fewer (task.Accept (accepting.Session fd)) b = fd-fewer fd b
  before-fewer (task.Accept (accepting.Event fd s)) b = (fd-fewer fd b.0, session-fewer s.0 b.1)
  before-fewer (task.Accept (accepting.Autoclose fd s x)) b = (fd-fewer fd b.0, session-fewer s.0 b.1)
  before-fewer (task.Accept (accepting.Queue fd s x)) b = (fd-fewer fd b.0, session-fewer s.0 b.1)
  before-fewer (task.Accept accepting.Accept) b = tt
  before-fewer (task.Accept (accepting.Abandon fd s)) b = tt
  before-fewer (task.Accept (accepting.Close fd)) b = tt
  before-fewer (task.Accept (accepting.Free s)) b = tt
  before-fewer (task.Serve s at) b = tt
  before-fewer (task.Notify n at) b = tt
  before-fewer (task.Trigger s at) b = tt
  before-fewer task.Return b = tt

  accepted-fewer : (t : Task) (r : Reply) → Accepted d l next t r → Accepted e l next t r
  accepted-fewer (task.Accept (accepting.Queue fd s x)) (reply.Number n) a = (fd-fewer fd a.0, session-fewer s.0 a.1)
  accepted-fewer (task.Accept (accepting.Queue fd s x)) r a = before-fewer (after_accepting (accepting.Queue fd s x) r) a
  accepted-fewer (task.Accept accepting.Accept) r a = before-fewer (after_accepting accepting.Accept r) a
  accepted-fewer (task.Accept (accepting.Session fd)) r a = before-fewer (after_accepting (accepting.Session fd) r) a
  accepted-fewer (task.Accept (accepting.Event fd s)) r a = before-fewer (after_accepting (accepting.Event fd s) r) a
  accepted-fewer (task.Accept (accepting.Autoclose fd s x)) r a = before-fewer (after_accepting (accepting.Autoclose fd s x) r) a
  accepted-fewer (task.Accept (accepting.Abandon fd s)) r a = before-fewer (after_accepting (accepting.Abandon fd s) r) a
  accepted-fewer (task.Accept (accepting.Close fd)) r a = before-fewer (after_accepting (accepting.Close fd) r) a
  accepted-fewer (task.Accept (accepting.Free s)) r a = before-fewer (after_accepting (accepting.Free s) r) a
  accepted-fewer (task.Serve s at) r a = tt
  accepted-fewer (task.Notify n at) r a = tt
  accepted-fewer (task.Trigger s at) r a = tt
  accepted-fewer task.Return r a = tt

  after-fewer : (r : Reply) (t : Task) → After d l next r t → After e l next r t
  after-fewer r t a = (accepted-fewer t r a.0, goes-fewer (rest_by t r) a.1)

  pub rest-fewer : (fs : List Frame) → Rest d l next fs → Rest e l next fs
  rest-fewer fs r = (goes-fewer whole r.0, subst (Below fs) (sym f.runs) r.1)

  top-fewer : (more : List Run → Type 0) (P Q : Task → Type 0) → ((t : Task) → P t → Q t) → (runs : List Run) → Top P more runs → Top Q more runs
  top-fewer more P Q h (Own t ∷ runs) w = (h t w.0, w.1)
  top-fewer more P Q h [] w = absurd w
  top-fewer more P Q h (Outside ∷ runs) w = absurd w

  pub told-fewer : (q : Ask) (r : Reply) (fs : List Frame) → ToldTo d l next q r fs → ToldTo e l next q r fs
  told-fewer ask.Quiet r fs w = rest-fewer fs w
  told-fewer (ask.Routine m) r fs w = (w.0, (w.1.0, subst (Top (After e l next r) (Below fs)) (sym f.runs) (top-fewer (Below fs) (After d l next r) (After e l next r) (λ t a. after-fewer r t a) d.runs w.1.1)))
  told-fewer _ r fs w = absurd w

-- ---- a work ends

module _ (d : Knowledge) (l : Ledger) (next : ℕ) where
  pub calm-after : (r : Reply) (t : Task) → IsCalm t → Goes d l whole → After d l next r t
  calm-after r (task.Accept accepting.Accept) c g = absurd c
  calm-after r (task.Accept (accepting.Session fd)) c g = absurd c
  calm-after r (task.Accept (accepting.Event fd s)) c g = absurd c
  calm-after r (task.Accept (accepting.Autoclose fd s x)) c g = absurd c
  calm-after r (task.Accept (accepting.Queue fd s x)) c g = absurd c
  calm-after r (task.Accept (accepting.Abandon fd s)) c g = (tt, g)
  calm-after r (task.Accept (accepting.Close fd)) c g = (tt, g)
  calm-after r (task.Accept (accepting.Free s)) c g = (tt, g)
  calm-after r (task.Serve s serving.Write) c g = absurd c
  calm-after r (task.Serve s serving.Read) c g = (tt, g)
  calm-after r (task.Serve s serving.Lines) c g = (tt, g)
  calm-after r (task.Serve s (serving.Order tag (fulfilling.Sleep delay))) c g = absurd c
  calm-after r (task.Serve s (serving.Order tag (fulfilling.Job delay))) c g = absurd c
  calm-after r (task.Serve s (serving.Order tag at)) c g = (tt, g)
  calm-after r (task.Serve s serving.Flags) c g = (tt, g)
  calm-after r (task.Serve s serving.Leave) c g = (tt, g)
  calm-after r (task.Notify n at) c g = (tt, g)
  calm-after r (task.Trigger s at) c g = (tt, g)
  calm-after r task.Return c g = (tt, g)

  top-calm : (r : Reply) (more : List Run → Type 0) → Goes d l whole → (runs : List Run) → Top IsCalm more runs → Top (After d l next r) more runs
  top-calm r more g (Own t ∷ runs) w = (calm-after r t w.0 g, w.1)
  top-calm r more g [] w = absurd w
  top-calm r more g (Outside ∷ runs) w = absurd w

  ends : (g : Frame) (gs : List Frame) (a : Answer) → Rest d l next (g ∷ gs) → Stands d l next (resume g a) gs
  ends (frame.Free f) gs a r = r
  ends (frame.Turn f) gs a r = r
  ends (frame.Request f) gs a r = r
  ends (frame.Outside f) gs a r = absurd r.1
  ends (frame.Call (Awaiting ask.Quiet x)) gs a r = r
  ends (frame.Call (Awaiting (ask.Routine m) x)) gs a r = (refl, (r.1.0, top-calm (freed_reply x (reply_in a)) (Below gs) r.0 d.runs r.1.1))
  ends (frame.Call (Awaiting _ x)) gs a r = absurd r.1
  ends (frame.Call (Requesting ask.Quiet)) gs a r = r
  ends (frame.Call (Requesting (ask.Routine m))) gs a r = (refl, (r.1.0, top-calm (heard_in a) (Below gs) r.0 d.runs r.1.1))
  ends (frame.Call (Requesting _)) gs a r = absurd r.1
  ends (frame.Call (Turning ask.Quiet)) gs a r = r
  ends (frame.Call (Turning _)) gs a r = absurd r.1
  ends (frame.Call (Asking q)) gs a r = absurd r.1
  ends (frame.Call (Doing q c)) gs a r = absurd r.1
  ends (frame.Call (Announcing q notice b)) gs a r = absurd r.1
  ends (frame.Call (Telling q b)) gs a r = absurd r.1
  ends (frame.Call (Returning v)) gs a r = absurd r.1

  pub done-fine : (g : Frame) (gs : List Frame) (a : Answer) → Keeps d l next → Rest d l next (g ∷ gs) → Fine d l (resume g a) gs next
  done-fine g gs a k r = record { keeps = k; stands = ends g gs a r }
