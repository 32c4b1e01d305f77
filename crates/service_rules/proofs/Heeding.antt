-- What a task of the service's does after a reply keeps what goes out: of bytes that were written none go again.
use Rattle.std.proofs.Common.{◌≡◌, ℕ, ◌<◌, false, T, cond, List, [], ◌++◌, length, drop, Option, Some, None, refl, sym, ◌∙◌, ap, subst, ◌⊎◌, inl, inr, arith, length-drop}
use Rattle.std.specs.Ordering.{nat_cmp, eq_by_cmp}
use Rattle.std.specs.Cmp.{nat_cmp_total}
use Rattle.std.specs.FinMap.Entries.{find, is_sorted, is_sorted-put}
use Rattle.std.proofs.lemmas.List.{append-nil}
use Rattle.tree_specs.specs.declared.object.Obj.{Obj}
use Rattle.tree_specs.specs.declared.reply.Reply.{Reply}
use Rattle.tree_specs.specs.declared.reply.Reply.TheVariants as reply
use Rattle.tree_specs.specs.declared.frame.Frame.{Frame}
use Rattle.tree_specs.specs.Tree.Pool.{Pool}
use Rattle.tree_specs.proofs.Tree.Numbered.{by_test}
use Rattle.service_rules.specs.declared.task.Accepting.{Accepting}
use Rattle.service_rules.specs.declared.task.Accepting.TheVariants as accepting
use Rattle.service_rules.specs.declared.task.Fulfilled.{Fulfilled}
use Rattle.service_rules.specs.declared.task.Fulfilled.TheVariants as fulfilled
use Rattle.service_rules.specs.declared.task.Notice.{Notice}
use Rattle.service_rules.specs.declared.task.Notifying.{Notifying}
use Rattle.service_rules.specs.declared.task.Notifying.TheVariants as notifying
use Rattle.service_rules.specs.declared.task.Serving.{Serving}
use Rattle.service_rules.specs.declared.task.Serving.TheVariants as serving
use Rattle.service_rules.specs.declared.task.Task.{Task}
use Rattle.service_rules.specs.declared.task.Task.TheVariants as task
use Rattle.service_rules.specs.declared.task.Triggering.{Triggering}
use Rattle.service_rules.specs.Answers.{answer_line, ended}
use Rattle.service_rules.specs.Knowledge.{Connection, Knowledge, connection_of, with_connection, new_connection, saying, keeping}
use Rattle.service_rules.specs.Tasks.{object, after_accepting, after_fulfilling, after_triggering, after_reading, after_writing, flags_to_set, flagging}
use Rattle.service_rules.specs.Routines.{does, does_next, hears, serves, serving_hears, notifying_hears, triggering_hears, ordered, served, notified, triggered, sent, more_came, flagged}
use Rattle.service_rules.specs.Sent.{Bytes, Ledger}
use Rattle.service_rules.proofs.Entries.{same-number, itself, found-other}
use Rattle.service_rules.proofs.Owing.{IsKnown, Goes, whole, Keeps, FreeFd, FreeSession, Before, After, rest_by, Below}
use Rattle.service_rules.proofs.Growing.{drop-over, Grown, Fresh, Becomes, Appends, appends-nothing, appends-then, appends-put, became-goes, became-keeps, put-each, put-none}
use Rattle.service_rules.proofs.Acting.{Settled, ActsFine, does-acts}

module _ (d : Knowledge) (l : Ledger) (next : ℕ) (fs : List Frame) (keeps : Keeps d l next) (p : Pool) (e : Knowledge) (same : e.connections ≡ d.connections) (below : Below fs e.runs) where
  -- what was known is known
  was : (k : ℕ) (c : Connection) → IsKnown e k c → IsKnown d k c
  was k c h = sym (ap (find nat_cmp k) same) ∙ h

  nothing : Appends d e
  nothing = appends-nothing d e same

  -- ---- the reply to a write

  abbrev Wrote : Obj → ℕ → ℕ → Bytes → Bytes
  Wrote s n = rest_by (task.Serve s serving.Write) (reply.Number n)

  other-grown : (s : Obj) (n k : ℕ) (c : Connection) → eq_by_cmp nat_cmp k s.0 ≡ false → IsKnown e k c → Grown d (Wrote s n) k c
  other-grown s n k c t h = record {
    before = c;
    known = was k c h;
    descriptor = refl;
    more = [];
    unsent = sym (append-nil c.unsent) ∙ sym (ap (λ b. cond b (drop n c.unsent) c.unsent ++ []) t);
    appended = drop-over (length c.unsent) c.unsent (omega arith);
  }

  unknown-becomes : (s : Obj) (n : ℕ) → connection_of e s ≡ None → Becomes d l next 0 (Wrote s n) e
  unknown-becomes s n none = record {
    sorted = subst (λ (es : List (ℕ × Connection)). T (is_sorted nat_cmp es)) (sym same) keeps.sorted;
    young = λ k h. ap (find nat_cmp k) same ∙ keeps.young k h;
    each = λ k c h. inl (by_test (eq_by_cmp nat_cmp k s.0)
        (λ t. let h' : find nat_cmp s.0 e.connections ≡ Some c = subst (λ (z : ℕ). find nat_cmp z e.connections ≡ Some c) (same-number k s.0 t) h in absurd (differ c (sym h' ∙ none)))
        (λ t. other-grown s n k c t h));
  }
    where
      differ : (c : Connection) → Some c ≡ None → ⊥
      differ c h = cc

  sent-becomes : (s : Obj) (n : ℕ) (b : Connection) → IsKnown e s.0 b → Becomes d l next 0 (Wrote s n) (with_connection s (sent n b) e)
  sent-becomes s n b known = record {
    sorted = is_sorted-put nat_cmp nat_cmp_total s.0 (sent n b) e.connections (subst (λ (es : List (ℕ × Connection)). T (is_sorted nat_cmp es)) (sym same) keeps.sorted);
    young = λ k h. put-none e s (sent n b) b known k (ap (find nat_cmp k) same ∙ keeps.young k h);
    each = λ k c h. inl (put-each e (Grown d (Wrote s n)) s (sent n b) here (λ k c t i. other-grown s n k c t i) k c h);
  }
    where
      here : Grown d (Wrote s n) s.0 (sent n b)
      here = record {
        before = b;
        known = was s.0 b known;
        descriptor = refl;
        more = [];
        unsent = sym (append-nil (drop n b.unsent)) ∙ sym (ap (λ t. cond t (drop n b.unsent) b.unsent ++ []) (itself s.0));
        appended = drop-over (length b.unsent) (drop n b.unsent) (omega (arith, length-drop n b.unsent));
      }

  settled-by : (s : ℕ) (rest : ℕ → Bytes → Bytes) (f : Knowledge) → Becomes d l next s rest f → Goes d l rest → Below fs f.runs → Settled d l next fs f
  settled-by s rest f b goes under = record { keeps = became-keeps d l next s rest f b keeps; goes = became-goes d l next s rest f b goes; below = under }

  written-acts : (s : Obj) (f : Knowledge) (c : Connection) → Settled d l next fs f → ActsFine d l next fs (does f p (served s (after_writing c)))
  written-acts s f c settled = each (flags_to_set c)
    where
      flags : (o : Option Connection) → ActsFine d l next fs (serves f p s serving.Flags o)
      flags None = settled
      flags (Some b) = (settled, tt, tt)

      each : (o : Option ℕ) → ActsFine d l next fs (does f p (served s (flagging o)))
      each None = settled
      each (Some n) = flags (connection_of f s)

  wrote-heeds : (s : Obj) (n : ℕ) → Goes d l (Wrote s n) → ActsFine d l next fs (does_next p (hears e (task.Serve s serving.Write) (reply.Number n)))
  wrote-heeds s n goes = each (connection_of e s) refl
    where
      each : (o : Option Connection) → connection_of e s ≡ o → ActsFine d l next fs (does_next p (serving_hears e s serving.Write (reply.Number n) o))
      each None known = settled-by 0 (Wrote s n) e (unknown-becomes s n known) goes below
      each (Some c) known = written-acts s (with_connection s (sent n c) e) (sent n c) (settled-by 0 (Wrote s n) (with_connection s (sent n c) e) (sent-becomes s n c known) goes below)

  -- ---- a new connection

  new-becomes : (fd : ℕ) (s x q : Obj) → FreeFd d l fd → FreeSession d l next s.0 → Becomes d l next s.0 whole (with_connection s (new_connection fd x q) e)
  new-becomes fd s x q free session = record {
    sorted = is_sorted-put nat_cmp nat_cmp_total s.0 (new_connection fd x q) e.connections (subst (λ (es : List (ℕ × Connection)). T (is_sorted nat_cmp es)) (sym same) keeps.sorted);
    young = λ k h. by_test (eq_by_cmp nat_cmp k s.0)
        (λ t. let i : k ≡ s.0 = same-number k s.0 t in let j : s.0 < next = session.0 in absurd (omega arith))
        (λ t. found-other k s.0 (new_connection fd x q) e.connections t ∙ ap (find nat_cmp k) same ∙ keeps.young k h);
    each = put-each e (λ k c. Grown d whole k c ⊎ Fresh d l s.0 k c) s (new_connection fd x q)
        (inr (record { session = refl; empty = refl; free = free; unknown = session.1; unsaid = session.2 }))
        (λ k c t h. inl (nothing.each k c h));
  }

  module _ (goes : Goes d l whole) where
    goes-on : (t : Task) → Before d l next t → ActsFine d l next fs (does e p t)
    goes-on t b = does-acts d l next fs keeps goes p e t nothing below b

    accept-heeds : (at : Accepting) (r : Reply) → After d l next r (task.Accept at) → ActsFine d l next fs (does_next p (hears e (task.Accept at) r))
    accept-heeds (accepting.Queue fd s x) (reply.Number n) a = settled-by s.0 whole (with_connection s (new_connection fd x (object n)) e) (new-becomes fd s x (object n) a.0.0 a.0.1) goes below
    accept-heeds (accepting.Queue fd s x) r a = goes-on (after_accepting (accepting.Queue fd s x) r) a.0
    accept-heeds accepting.Accept r a = goes-on (after_accepting accepting.Accept r) a.0
    accept-heeds (accepting.Session fd) r a = goes-on (after_accepting (accepting.Session fd) r) a.0
    accept-heeds (accepting.Event fd s) r a = goes-on (after_accepting (accepting.Event fd s) r) a.0
    accept-heeds (accepting.Autoclose fd s x) r a = goes-on (after_accepting (accepting.Autoclose fd s x) r) a.0
    accept-heeds (accepting.Abandon fd s) r a = goes-on (after_accepting (accepting.Abandon fd s) r) a.0
    accept-heeds (accepting.Close fd) r a = goes-on (after_accepting (accepting.Close fd) r) a.0
    accept-heeds (accepting.Free s) r a = goes-on (after_accepting (accepting.Free s) r) a.0

    -- one connection says more
    says-on : (s : Obj) (c b : Connection) (more : Bytes) (t : Task) → IsKnown e s.0 b → c.descriptor ≡ b.descriptor → c.unsent ≡ b.unsent ++ more → Before d l next t → ActsFine d l next fs (does (with_connection s c e) p t)
    says-on s c b more t known fd u before = does-acts d l next fs keeps goes p (with_connection s c e) t a below before
      where
        a : Appends d (with_connection s c e)
        a = appends-then d e (with_connection s c e) nothing (appends-put e s c b more known fd u)

    served-before : (s : Obj) (o : Option Serving) → Before d l next (served s o)
    served-before s None = tt
    served-before s (Some at) = tt

    order-heeds : (s : Obj) (c : Connection) (tag : ℕ) (o : Fulfilled) → IsKnown e s.0 c → ActsFine d l next fs (does_next p (ordered e s c tag o))
    order-heeds s c tag (fulfilled.Next at) known = goes-on (task.Serve s (serving.Order tag at)) tt
    order-heeds s c tag (fulfilled.Answered a) known = says-on s (saying (answer_line tag a) c) c (answer_line tag a) (task.Serve s serving.Lines) known refl refl tt
    order-heeds s c tag (fulfilled.Kept request) known =
        does-acts d l next fs keeps goes p (keeping request (record { session = s; tag = tag }) e) (task.Serve s serving.Lines) (appends-nothing d (keeping request (record { session = s; tag = tag }) e) same) below tt

    serve-heeds : (s : Obj) (at : Serving) (r : Reply) (o : Option Connection) → connection_of e s ≡ o → ((n : ℕ) → at ≡ serving.Write → r ≡ reply.Number n → ⊥) → ActsFine d l next fs (does_next p (serving_hears e s at r o))
    serve-heeds s at r None known not = goes-on task.Return tt
    serve-heeds s serving.Read (reply.Bytes bytes) (Some c) known not = says-on s (more_came bytes c) c [] (task.Serve s serving.Lines) known refl (sym (append-nil c.unsent)) tt
    serve-heeds s serving.Read reply.End (Some c) known not = goes-on (task.Serve s serving.Leave) tt
    serve-heeds s serving.Read reply.Fault (Some c) known not = goes-on (task.Serve s serving.Leave) tt
    serve-heeds s serving.Read r (Some c) known not = goes-on (served s (after_reading c)) (served-before s (after_reading c))
    serve-heeds s serving.Lines r (Some c) known not = goes-on task.Return tt
    serve-heeds s (serving.Order tag at) r (Some c) known not = order-heeds s c tag (after_fulfilling at r s) known
    serve-heeds s serving.Write (reply.Number n) (Some c) known not = absurd (not n refl refl)
    serve-heeds s serving.Write reply.Fault (Some c) known not = goes-on (task.Serve s serving.Leave) tt
    serve-heeds s serving.Write r (Some c) known not = goes-on (served s (after_writing c)) (served-before s (after_writing c))
    serve-heeds s serving.Flags r (Some c) known not = says-on s (flagged c) c [] task.Return known refl (sym (append-nil c.unsent)) tt
    serve-heeds s serving.Leave r (Some c) known not = goes-on task.Return tt

    notify-heeds : (n : Notice) (at : Notifying) (r : Reply) (o : Option Connection) → connection_of e n.session ≡ o → ActsFine d l next fs (does_next p (notifying_hears e n at r o))
    notify-heeds n at r None known = goes-on task.Return tt
    notify-heeds n notifying.Look r (Some c) known = goes-on (task.Notify n (notifying.Receive (ended r))) tt
    notify-heeds n (notifying.Receive a) r (Some c) known = goes-on (task.Notify n (notifying.Free a)) tt
    notify-heeds n (notifying.Free a) r (Some c) known = says-on n.session c' c (answer_line n.tag a) (notified n (flags_to_set c')) known refl refl (each (flags_to_set c'))
      where
        c' : Connection
        c' = saying (answer_line n.tag a) c

        each : (o : Option ℕ) → Before d l next (notified n o)
        each None = tt
        each (Some flags) = tt
    notify-heeds n notifying.Flags r (Some c) known = says-on n.session (flagged c) c [] task.Return known refl (sym (append-nil c.unsent)) tt

    trigger-heeds : (s : Obj) (at : Triggering) (r : Reply) (o : Option Connection) → ActsFine d l next fs (does_next p (triggering_hears e s at r o))
    trigger-heeds s at r None = goes-on task.Return tt
    trigger-heeds s at r (Some c) = goes-on (triggered s (after_triggering at r)) (each (after_triggering at r))
      where
        each : (o : Option Triggering) → Before d l next (triggered s o)
        each None = tt
        each (Some at) = tt

  pub heeds : (t : Task) (r : Reply) → After d l next r t → ActsFine d l next fs (does_next p (hears e t r))
  heeds (task.Accept at) r a = accept-heeds a.1 at r a
  heeds (task.Serve s serving.Write) (reply.Number n) a = wrote-heeds s n a.1
  heeds (task.Serve s serving.Write) r a = serve-heeds a.1 s serving.Write r (connection_of e s) refl (λ n i j. cc)
  heeds (task.Serve s serving.Read) r a = serve-heeds a.1 s serving.Read r (connection_of e s) refl (λ n i j. cc)
  heeds (task.Serve s serving.Lines) r a = serve-heeds a.1 s serving.Lines r (connection_of e s) refl (λ n i j. cc)
  heeds (task.Serve s (serving.Order tag at)) r a = serve-heeds a.1 s (serving.Order tag at) r (connection_of e s) refl (λ n i j. cc)
  heeds (task.Serve s serving.Flags) r a = serve-heeds a.1 s serving.Flags r (connection_of e s) refl (λ n i j. cc)
  heeds (task.Serve s serving.Leave) r a = serve-heeds a.1 s serving.Leave r (connection_of e s) refl (λ n i j. cc)
  heeds (task.Notify n at) r a = notify-heeds a.1 n at r (connection_of e n.session) refl
  heeds (task.Trigger s at) r a = trigger-heeds a.1 s at r (connection_of e s)
  heeds task.Return r a = goes-on a.1 task.Return tt
