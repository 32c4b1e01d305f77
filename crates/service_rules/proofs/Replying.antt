-- What goes out still does after a fair answer of the outside to a call.
use Rattle.std.proofs.Common.{◌≡◌, ℕ, zero, suc, ◌≤◌, ◌&&◌, not, Bool, true, false, List, [], ◌∷◌, length, take, Some, refl, sym, subst, arith}
use Rattle.std.specs.Prelude.{nat_le}
use Rattle.std.proofs.lemmas.Bool.{leb-true, le-leb}
use Rattle.tree_specs.specs.declared.bounds.TheConstants.{OCTETS_LIMIT}
use Rattle.tree_specs.specs.declared.reply.Reply.{Reply}
use Rattle.tree_specs.specs.declared.reply.Reply.TheVariants as reply
use Rattle.tree_specs.specs.declared.moment.Moment.{Moment}
use Rattle.tree_specs.specs.declared.question.Ask.{Ask}
use Rattle.tree_specs.specs.declared.question.Ask.TheVariants as ask
use Rattle.tree_specs.specs.declared.question.Input.{Input}
use Rattle.tree_specs.specs.declared.question.Input.TheVariants as input
use Rattle.tree_specs.specs.declared.frame.Frame.{Frame}
use Rattle.tree_specs.specs.declared.frame.Frame.TheVariants as frame
use Rattle.tree_specs.specs.declared.frame.CallFrame.TheVariants.{Turning}
use Rattle.tree_specs.specs.declared.frame.OutsideFrame.TheVariants.{Reaching}
use Rattle.tree_specs.specs.Tree.Pool.{Pool}
use Rattle.tree_specs.specs.Calls.Refusals.{is_open}
use Rattle.tree_specs.specs.Words.Octets.{is_octets}
use Rattle.tree_specs.specs.Words.Ranges.{is_return, is_routine, is_time}
use Rattle.tree_specs.specs.Machine.Table.{outside_taken, hearing_one}
use Rattle.tree_specs.proofs.Tree.Numbered.{by_test}
use Rattle.tree_specs.proofs.Calls.Plans.{IsOutside}
use Rattle.service_rules.specs.declared.task.Accepting.{Accepting}
use Rattle.service_rules.specs.declared.task.Accepting.TheVariants as accepting
use Rattle.service_rules.specs.declared.task.Fulfilling.TheVariants as fulfilling
use Rattle.service_rules.specs.declared.task.Run.{Run}
use Rattle.service_rules.specs.declared.task.Run.TheVariants.{Own, Outside}
use Rattle.service_rules.specs.declared.task.Serving.TheVariants as serving
use Rattle.service_rules.specs.declared.task.Task.{Task}
use Rattle.service_rules.specs.declared.task.Task.TheVariants as task
use Rattle.service_rules.specs.Knowledge.{Knowledge}
use Rattle.service_rules.specs.Tasks.{accepts, session_for}
use Rattle.service_rules.specs.Service.{heard}
use Rattle.service_rules.specs.Sent.{Ledger, answered}
use Rattle.service_rules.specs.Fair.{is_kept, is_fair}
use Rattle.service_rules.proofs.Owing.{Goes, whole, Keeps, FreeFd, Before, Accepted, After, IsAskOf, Top, Below, Outer, Reached, rest_by, is_writing}
use Rattle.service_rules.proofs.Reaching.{accepts_new, writes_more, accepted-goes, accepted-free, keeps-taken, none-written, written-goes}
use Rattle.service_rules.proofs.Leading.{GivenFine}

abbrev IsNoNumber : Reply → Type 0
IsNoNumber (reply.Number n) = ⊥
IsNoNumber r = Unit {0}

top-each : (more : List Run → Type 0) (P Q : Task → Type 0) → ((t : Task) → P t → Q t) → (runs : List Run) → Top P more runs → Top Q more runs
top-each more P Q h (Own t ∷ runs) w = (h t w.0, w.1)
top-each more P Q h [] w = absurd w
top-each more P Q h (Outside ∷ runs) w = absurd w

not-false : (b : Bool) → not b ≡ true → b ≡ false
not-false true h = cc
not-false false h = refl

module _ (d : Knowledge) (l : Ledger) (next : ℕ) where
  -- a reply that is no number tells of nothing that was written or accepted
  plain-after : (q : Ask) (r : Reply) → IsNoNumber r → Goes d l whole → (t : Task) → IsAskOf d q t → After d l next r t
  plain-after q r n g (task.Accept at) a = (subst (λ (z : Accepting). Accepted d l next (task.Accept z) r) (sym a.0) (each r n), g)
    where
      each : (r : Reply) → IsNoNumber r → Accepted d l next (task.Accept accepting.Accept) r
      each (reply.Number k) n = absurd n
      each _ n = tt
  plain-after q r n g (task.Serve s serving.Write) a = each r n
    where
      each : (r : Reply) → IsNoNumber r → After d l next r (task.Serve s serving.Write)
      each (reply.Number k) n = absurd n
      each _ n = (tt, g)
  plain-after q r n g (task.Serve s serving.Read) a = (tt, g)
  plain-after q r n g (task.Serve s serving.Lines) a = (tt, g)
  plain-after q r n g (task.Serve s (serving.Order tag at)) a = (tt, g)
  plain-after q r n g (task.Serve s serving.Flags) a = (tt, g)
  plain-after q r n g (task.Serve s serving.Leave) a = (tt, g)
  plain-after q r n g (task.Notify x at) a = (tt, g)
  plain-after q r n g (task.Trigger s at) a = (tt, g)
  plain-after q r n g task.Return a = (tt, g)

  clock-after : (now : ℕ) → Goes d l whole → (t : Task) → IsAskOf d ask.Clock t → After d l next (reply.Number now) t
  clock-after now g (task.Accept at) a = let e : ask.Clock ≡ ask.Accept 0 = a.1 in cc
  clock-after now g (task.Serve s serving.Write) a = let e : ask.Clock ≡ is_writing a.0 = a.2 in cc
  clock-after now g (task.Serve s serving.Read) a = (tt, g)
  clock-after now g (task.Serve s serving.Lines) a = (tt, g)
  clock-after now g (task.Serve s (serving.Order tag at)) a = (tt, g)
  clock-after now g (task.Serve s serving.Flags) a = (tt, g)
  clock-after now g (task.Serve s serving.Leave) a = (tt, g)
  clock-after now g (task.Notify x at) a = (tt, g)
  clock-after now g (task.Trigger s at) a = (tt, g)
  clock-after now g task.Return a = (tt, g)

  -- a descriptor that was accepted
  accept-after : (fd new : ℕ) → FreeFd d l new → Goes d l whole → (t : Task) → IsAskOf d (ask.Accept fd) t → After d l next (reply.Number new) t
  accept-after fd new free g (task.Accept at) a = (subst (λ (z : Accepting). Accepted d l next (task.Accept z) (reply.Number new)) (sym a.0) session, g)
    where
      each : (b : Bool) → Before d l next (elim b [ true ↦ accepts (accepting.Session new) | false ↦ task.Return ])
      each true = free
      each false = tt

      session : Before d l next (session_for new)
      session = each (is_return new)
  accept-after fd new free g (task.Serve s serving.Write) a = let e : ask.Accept fd ≡ is_writing a.0 = a.2 in cc
  accept-after fd new free g (task.Serve s serving.Read) a = absurd a
  accept-after fd new free g (task.Serve s serving.Lines) a = absurd a
  accept-after fd new free g (task.Serve s (serving.Order tag (fulfilling.Sleep delay))) a = absurd a
  accept-after fd new free g (task.Serve s (serving.Order tag (fulfilling.Job delay))) a = absurd a
  accept-after fd new free g (task.Serve s (serving.Order tag at)) a = absurd a
  accept-after fd new free g (task.Serve s serving.Flags) a = absurd a
  accept-after fd new free g (task.Serve s serving.Leave) a = absurd a
  accept-after fd new free g (task.Notify x at) a = absurd a
  accept-after fd new free g (task.Trigger s at) a = absurd a
  accept-after fd new free g task.Return a = absurd a

-- bytes that were written
write-after : (d : Knowledge) (l : Ledger) (next fd : ℕ) (bytes : List ℕ) (n : ℕ) → Keeps d l next → Goes d l whole → n ≤ length bytes → (t : Task) → IsAskOf d (ask.Write fd bytes) t → After d (writes_more fd bytes n l) next (reply.Number n) t
write-after d l next fd bytes n k g few (task.Accept at) a = let e : ask.Write fd bytes ≡ ask.Accept 0 = a.1 in cc
write-after d l next fd bytes n k g few (task.Serve s serving.Write) a =
    let e : ask.Write fd bytes ≡ is_writing a.0 = a.2 in
    let i : fd ≡ a.0.descriptor = cc in
    let j : bytes ≡ take OCTETS_LIMIT a.0.unsent = cc in
    let few' : n ≤ length (take OCTETS_LIMIT a.0.unsent) = subst (λ (z : List ℕ). n ≤ length z) j few in
    let goes : Goes d (writes_more a.0.descriptor (take OCTETS_LIMIT a.0.unsent) n l) (rest_by (task.Serve s serving.Write) (reply.Number n)) = written-goes d l next s a.0 n k g a.1 few' in (
      tt,
      subst (λ (z : ℕ). Goes d (writes_more z bytes n l) (rest_by (task.Serve s serving.Write) (reply.Number n))) (sym i)
          (subst (λ (z : List ℕ). Goes d (writes_more a.0.descriptor z n l) (rest_by (task.Serve s serving.Write) (reply.Number n))) (sym j) goes),
    )
write-after d l next fd bytes n k g few (task.Serve s serving.Read) a = absurd a
write-after d l next fd bytes n k g few (task.Serve s serving.Lines) a = absurd a
write-after d l next fd bytes n k g few (task.Serve s (serving.Order tag (fulfilling.Sleep delay))) a = absurd a
write-after d l next fd bytes n k g few (task.Serve s (serving.Order tag (fulfilling.Job delay))) a = absurd a
write-after d l next fd bytes n k g few (task.Serve s (serving.Order tag at)) a = absurd a
write-after d l next fd bytes n k g few (task.Serve s serving.Flags) a = absurd a
write-after d l next fd bytes n k g few (task.Serve s serving.Leave) a = absurd a
write-after d l next fd bytes n k g few (task.Notify x at) a = absurd a
write-after d l next fd bytes n k g few (task.Trigger s at) a = absurd a
write-after d l next fd bytes n k g few task.Return a = absurd a

module _ (d : Knowledge) (l : Ledger) (p : Pool) (m : Moment) (fs : List Frame) (k : Keeps d l p.next) where
  abbrev Under : List Frame
  Under = frame.Call (Turning (ask.Routine m)) ∷ fs

  abbrev Given : Ask → Input → Type 0
  Given q i = GivenFine (heard d q i) (answered l q i) p.next Under (outside_taken (Reaching q) p i)

  -- the reply is no number
  plainly : (q : Ask) (r : Reply) → IsNoNumber r → Reached d l p.next (Reaching q) m fs → GivenFine d l p.next Under (Some (hearing_one r))
  plainly q r n w = record { keeps = k; stands = (w.0, top-each (Below fs) (IsAskOf d q) (After d l p.next r) (plain-after d l p.next q r n w.1) d.runs w.2) }

  reached-fine : (q : Ask) (i : Input) → IsOutside q → Reached d l p.next (Reaching q) m fs → is_fair d q i ≡ true → Given q i
  reached-fine ask.Quiet i o w fair = absurd o
  reached-fine (ask.Routine x) i o w fair = absurd o
  reached-fine (ask.Wait limit) i o w fair = absurd o
  reached-fine ask.Clock (input.Clock now) o w fair = by_test (is_time now)
      (λ t. rw t (record { keeps = k; stands = (w.0, top-each (Below fs) (IsAskOf d ask.Clock) (After d l p.next (reply.Number now)) (clock-after d l p.next now w.1) d.runs w.2) }))
      (λ t. rw t (k, w.1))
  reached-fine ask.Clock _ o w fair = (k, w.1)
  reached-fine (ask.Accept fd) (input.Took new) o w fair = by_test (is_routine new && not (is_open p new))
      (λ t. rw t (record { keeps = keeps; stands = (w.0, top-each (Below fs) (IsAskOf d (ask.Accept fd)) (After d (accepts_new new l) p.next (reply.Number new)) (accept-after d (accepts_new new l) p.next fd new (accepted-free d l new free) goes) d.runs w.2) }))
      (λ t. rw t (keeps, goes))
    where
      free : is_kept d.connections new ≡ false
      free = not-false (is_kept d.connections new) fair

      keeps : Keeps d (accepts_new new l) p.next
      keeps = keeps-taken d l p.next (accepts_new new l).taken k

      goes : Goes d (accepts_new new l) whole
      goes = accepted-goes d l new free w.1
  reached-fine (ask.Accept fd) input.Again o w fair = plainly (ask.Accept fd) reply.Again tt w
  reached-fine (ask.Accept fd) input.Fault o w fair = plainly (ask.Accept fd) reply.Fault tt w
  reached-fine (ask.Accept fd) _ o w fair = (k, w.1)
  reached-fine (ask.Read fd most) (input.Got bytes) o w fair = by_test (is_octets bytes && nat_le (length bytes) most) (λ t. rw t (plainly (ask.Read fd most) (reply.Bytes bytes) tt w)) (λ t. rw t (k, w.1))
  reached-fine (ask.Read fd most) input.End o w fair = plainly (ask.Read fd most) reply.End tt w
  reached-fine (ask.Read fd most) input.Again o w fair = plainly (ask.Read fd most) reply.Again tt w
  reached-fine (ask.Read fd most) input.Fault o w fair = plainly (ask.Read fd most) reply.Fault tt w
  reached-fine (ask.Read fd most) _ o w fair = (k, w.1)
  reached-fine (ask.Write fd bytes) (input.Wrote zero) o w fair = (keeps-taken d l p.next (writes_more fd bytes 0 l).taken k, none-written d l fd bytes w.1)
  reached-fine (ask.Write fd bytes) (input.Wrote (suc n)) o w fair = by_test (nat_le 1 (suc n) && nat_le (suc n) (length bytes))
      (λ t. rw t (record { keeps = keeps-taken d l p.next (writes_more fd bytes (suc n) l).taken k; stands = (w.0, top-each (Below fs) (IsAskOf d (ask.Write fd bytes)) (After d (writes_more fd bytes (suc n) l) p.next (reply.Number (suc n))) (write-after d l p.next fd bytes (suc n) k w.1 few) d.runs w.2) }))
      (λ t. let one : nat_le 1 (suc n) ≡ true = le-leb 1 (suc n) (omega arith) in let e : true ≡ false = rw (one, fair) at t in cc)
    where
      few : suc n ≤ length bytes
      few = leb-true (suc n) (length bytes) fair
  reached-fine (ask.Write fd bytes) input.Again o w fair = plainly (ask.Write fd bytes) reply.Again tt w
  reached-fine (ask.Write fd bytes) input.Fault o w fair = plainly (ask.Write fd bytes) reply.Fault tt w
  reached-fine (ask.Write fd bytes) _ o w fair = (k, w.1)

pub reaching-fine : (d : Knowledge) (l : Ledger) (p : Pool) (q : Ask) (fs : List Frame) (i : Input) → Keeps d l p.next → IsOutside q → Outer d l p.next (Reaching q) fs → is_fair d q i ≡ true → GivenFine (heard d q i) (answered l q i) p.next fs (outside_taken (Reaching q) p i)
reaching-fine d l p q (frame.Call (Turning (ask.Routine m)) ∷ fs) i k o w fair = reached-fine d l p m fs k q i o w fair
reaching-fine d l p q _ i k o w fair = absurd w

-- before it nothing is on its way
pub reaching-goes : (d : Knowledge) (l : Ledger) (next : ℕ) (q : Ask) (fs : List Frame) → Outer d l next (Reaching q) fs → Goes d l whole
reaching-goes d l next q (frame.Call (Turning (ask.Routine m)) ∷ fs) w = w.1
reaching-goes d l next q _ w = absurd w
