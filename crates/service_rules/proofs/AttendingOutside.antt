-- Kept connections stay attended where the outside answers a call: a descriptor that it accepts is no kept connection's.
use Rattle.std.proofs.Common.{◌≡◌, ◌≢◌, ℕ, T, ◌&&◌, not, Bool, true, false, List, [], ◌∷◌, length, Some, None, refl, sym, ◌∙◌, subst, inl, inr}
use Rattle.std.specs.Prelude.{nat_eq, nat_le}
use Rattle.std.specs.List.{list_all}
use Rattle.std.specs.Ordering.{nat_cmp}
use Rattle.std.specs.FinMap.Entries.{is_sorted}
use Rattle.std.proofs.lemmas.Bool.{eqb-true}
use Rattle.step_machine.specs.Machine.{Move as Do}
use Rattle.tree_specs.specs.declared.object.Obj.{Obj}
use Rattle.tree_specs.specs.declared.reply.Reply.{Reply}
use Rattle.tree_specs.specs.declared.reply.Reply.TheVariants as reply
use Rattle.tree_specs.specs.declared.moment.Moment.{Moment}
use Rattle.tree_specs.specs.declared.moment.What.TheVariants as what
use Rattle.tree_specs.specs.declared.question.Ask.{Ask}
use Rattle.tree_specs.specs.declared.question.Ask.TheVariants as ask
use Rattle.tree_specs.specs.declared.question.Input.{Input}
use Rattle.tree_specs.specs.declared.question.Input.TheVariants as input
use Rattle.tree_specs.specs.declared.frame.Frame.{Frame}
use Rattle.tree_specs.specs.declared.frame.Frame.TheVariants as frame
use Rattle.tree_specs.specs.declared.frame.CallFrame.TheVariants.{Turning}
use Rattle.tree_specs.specs.declared.frame.OutsideFrame.TheVariants.{Reaching}
use Rattle.tree_specs.specs.Rules.Items.Item.{Asked}
use Rattle.tree_specs.specs.Tree.Pool.{Pool}
use Rattle.tree_specs.specs.Calls.Refusals.{is_open}
use Rattle.tree_specs.specs.Events.Rotation.{is_watched}
use Rattle.tree_specs.specs.Words.Ranges.{is_routine}
use Rattle.tree_specs.specs.Machine.Table.{taken}
use Rattle.tree_specs.specs.Invariants.Consistent.{IsConsistent}
use Rattle.tree_specs.proofs.Tree.Numbered.{by_test}
use Rattle.tree_specs.proofs.Calls.Plans.{IsOutside}
use Rattle.tree_specs.proofs.Calls.Checks.{Reached, reached-leads}
use Rattle.tree_specs.proofs.Calls.Checks.Reached.{ReachedOpening, ReachedHearing}
use Rattle.tree_specs.proofs.Events.RotationLaws.{watch-watched}
use Rattle.service_rules.specs.declared.task.Accepting.{Accepting}
use Rattle.service_rules.specs.declared.task.Fulfilling.TheVariants as fulfilling
use Rattle.service_rules.specs.declared.task.Run.{Run}
use Rattle.service_rules.specs.declared.task.Run.TheVariants.{Own, Outside}
use Rattle.service_rules.specs.declared.task.Serving.TheVariants as serving
use Rattle.service_rules.specs.declared.task.Task.{Task}
use Rattle.service_rules.specs.declared.task.Task.TheVariants as task
use Rattle.service_rules.specs.Knowledge.{Connection, Knowledge, rest_of}
use Rattle.service_rules.specs.Tasks.{object}
use Rattle.service_rules.specs.Service.{heard}
use Rattle.service_rules.specs.Sent.{Ledger, answered, is_no_act}
use Rattle.service_rules.specs.Fair.{is_kept, is_fair}
use Rattle.service_rules.proofs.Entries.{all-found}
use Rattle.service_rules.proofs.Owing.{IsKnown, IsAskOf, Top, Below, Reached as ReachedFor, is_writing}
use Rattle.service_rules.proofs.Leading.{GivenFine, AskedFine}
use Rattle.service_rules.proofs.Stepping.{own-none}
use Rattle.service_rules.proofs.Tending.{Tended}
use Rattle.service_rules.proofs.Seating.{LeadsSeats}
use Rattle.service_rules.proofs.Sparing.{Removing}
use Rattle.service_rules.proofs.NewEvents.{alone}
use Rattle.service_rules.proofs.Clean.{Clean}
use Rattle.service_rules.proofs.Claiming.{IsAccepting, RunsFor, OfTop, Plainly, Claims}
use Rattle.service_rules.proofs.ReplyClaims.{asked-settled, settled-holds, settled-replies}
use Rattle.service_rules.proofs.Attending.{AllTend, Attended, AskedAttended}
use Rattle.service_rules.proofs.AttendingAsked.{AllLead, stacks, top-below}

-- no kept connection has the descriptor
apart-from : (d : Knowledge) (new : ℕ) → T (is_sorted nat_cmp d.connections) → ((k : ℕ) (c : Connection) → IsKnown d k c → c.descriptor ≢ new) → not (is_kept d.connections new) ≡ true
apart-from d new sorted others = each d.connections (all-found (λ e. not (nat_eq e.1.descriptor new)) d.connections sorted (λ k c h. by_test (nat_eq c.descriptor new)
    (λ t. absurd (others k c h (eqb-true c.descriptor new t)))
    (λ t. rw t refl)))
  where
    each : (es : List (ℕ × Connection)) → list_all (λ e. not (nat_eq e.1.descriptor new)) es ≡ true → not (is_kept es new) ≡ true
    each [] h = refl
    each (e ∷ es) h = by_test (nat_eq e.1.descriptor new)
        (λ t. let h' : false ≡ true = rw t at h in cc)
        (λ t. let h' : list_all (λ e. not (nat_eq e.1.descriptor new)) es ≡ true = rw t at h in rw t (each es h'))

-- the task that asks for one accepts
accepts-for : (d : Knowledge) (fd : ℕ) (t : Task) → IsAskOf d (ask.Accept fd) t → IsAccepting t
accepts-for d fd (task.Accept at) a = subst (λ (z : Accepting). IsAccepting (task.Accept z)) (sym a.0) tt
accepts-for d fd (task.Serve s serving.Write) a = let e : ask.Accept fd ≡ is_writing a.0 = a.2 in cc
accepts-for d fd (task.Serve s (serving.Order tag (fulfilling.Sleep delay))) a = absurd a
accepts-for d fd (task.Serve s (serving.Order tag (fulfilling.Job delay))) a = absurd a
accepts-for d fd _ a = absurd a

-- nothing more is known by the service
hears-nothing : (d : Knowledge) (q : Ask) (i : Input) → IsOutside q → heard d q i ≡ d
hears-nothing d ask.Quiet i o = absurd o
hears-nothing d (ask.Routine m) i o = absurd o
hears-nothing d (ask.Wait limit) i o = absurd o
hears-nothing d ask.Clock i o = refl
hears-nothing d (ask.Accept fd) i o = refl
hears-nothing d (ask.Read fd most) i o = refl
hears-nothing d (ask.Write fd bytes) i o = refl

-- a descriptor that is taken wasn't open
not-open : (p : Pool) (fd new : ℕ) (h : Frame) → taken (frame.Outside (Reaching (ask.Accept fd))) p (input.Took new) ≡ Some h → is_open p new ≡ false
not-open p fd new h t = by_test (is_routine new && not (is_open p new))
    (λ b. closed (is_routine new) (is_open p new) b)
    (λ b. let t' : None ≡ Some h = rw b at t in cc)
  where
    closed : (a b : Bool) → (a && not b) ≡ true → b ≡ false
    closed true true e = cc
    closed true false e = refl
    closed false b e = cc

-- bytes that are taken are no more than there were
few-written : (p : Pool) (fd : ℕ) (bytes : List ℕ) (n : ℕ) (h : Frame) → taken (frame.Outside (Reaching (ask.Write fd bytes))) p (input.Wrote n) ≡ Some h → nat_le n (length bytes) ≡ true
few-written p fd bytes n h t = by_test (nat_le 1 n && nat_le n (length bytes))
    (λ b. second (nat_le 1 n) (nat_le n (length bytes)) b)
    (λ b. let k : None ≡ Some h = rw b at t in cc)
  where
    second : (a b : Bool) → (a && b) ≡ true → b ≡ true
    second true b e = e
    second false b e = cc

module _ (d : Knowledge) (l : Ledger) (q : Ask) (m : Moment) (gs : List Frame) (p : Pool)
    (whole : IsConsistent (record { innermost = frame.Outside (Reaching q); below = frame.Call (Turning (ask.Routine m)) ∷ gs; pool = p }))
    (before : Attended d l (frame.Outside (Reaching q)) (frame.Call (Turning (ask.Routine m)) ∷ gs) p) (outside : IsOutside q) where
  abbrev Under : List Frame
  Under = frame.Call (Turning (ask.Routine m)) ∷ gs

  stands : ReachedFor d l p.next (Reaching q) m gs
  stands = before.fine.stands

  claims : OfTop (RunsFor m) d.runs
  claims = before.claims

  asks-for : (fd : ℕ) → q ≡ ask.Accept fd → m.what ≡ what.Descriptor
  asks-for fd is = each d.runs (subst (λ (z : Ask). Top (IsAskOf d z) (Below gs) d.runs) is stands.2) claims
    where
      each : (runs : List Run) → Top (IsAskOf d (ask.Accept fd)) (Below gs) runs → OfTop (RunsFor m) runs → m.what ≡ what.Descriptor
      each (Own t ∷ runs) top c = c (accepts-for d fd t top.0)
      each [] top c = absurd top
      each (Outside ∷ runs) top c = absurd top

  -- while it is accepted nothing is being removed
  unremoved : m.what ≡ what.Descriptor → (e k : Obj) → Removing e k gs → ⊥
  unremoved is e k = let b = top-below (IsAskOf d q) gs d.runs stands.2 in
      (alone gs b.0 (before.seats.1.0 is) whole.sound.waiting.1 (stacks (frame.Call (Turning (ask.Routine m))) gs whole.seated.1) b.1 e k).0

  others : (new : ℕ) → is_open p new ≡ false → m.what ≡ what.Descriptor → (k : ℕ) (c : Connection) → IsKnown d k c → c.descriptor ≢ new
  others new closed for k c known same = elim (before.tends k c known) [ inl w ↦ watches w.0 | inr r ↦ unremoved for c.event (object k) r ]
    where
      watches : Tended c.event (object k) c.descriptor p → ⊥
      watches t =
          let w : is_watched p.ring t.watch.fd ≡ true = watch-watched p.ring c.event t.watch t.watches in
          let o : is_open p t.watch.fd ≡ true = whole.awaits.watched t.watch.fd w in
          let o' : is_open p new ≡ true = subst (λ (n : ℕ). is_open p n ≡ true) (t.on ∙ same) o in
          let bad : true ≡ false = sym o' ∙ closed in cc

  fair : (i : Input) (h : Frame) → taken (frame.Outside (Reaching q)) p i ≡ Some h → is_no_act i ≡ true → is_fair d q i ≡ true
  fair i h t acts = each q refl i t acts
    where
      each : (z : Ask) → q ≡ z → (i : Input) → taken (frame.Outside (Reaching z)) p i ≡ Some h → is_no_act i ≡ true → is_fair d z i ≡ true
      each (ask.Accept fd) is (input.Took new) t acts = apart-from d new before.fine.keeps.sorted (others new (not-open p fd new h t) (asks-for fd is))
      each (ask.Accept fd) is _ t acts = acts
      each (ask.Write fd bytes) is (input.Wrote n) t acts = few-written p fd bytes n h t
      each (ask.Write fd bytes) is _ t acts = acts
      each _ is i t acts = acts

  plainly : (r : Reply) → OfTop (Plainly d (rest_of d.runs) m r) d.runs
  plainly r = each d.runs stands.2 claims
    where
      each : (runs : List Run) → Top (IsAskOf d q) (Below gs) runs → OfTop (RunsFor m) runs → OfTop (Plainly d (rest_of d.runs) m r) runs
      each (Own t ∷ runs) top c = let s = asked-settled d q t top.0 in (c, (λ z. settled-holds d (rest_of d.runs) z t r s), λ x f. settled-replies t r x s f)
      each [] top c = absurd top
      each (Outside ∷ runs) top c = absurd top

  reached-claims : (h : Frame) → Reached p h → Claims d p h (frame.Call (Turning (ask.Routine m)) ∷ gs)
  reached-claims _ (ReachedOpening fd number closed) = plainly (reply.Number fd)
  reached-claims _ (ReachedHearing r) = plainly r

  pub reaching-attended : AskedFine d l p q (frame.Outside (Reaching q)) (frame.Call (Turning (ask.Routine m)) ∷ gs) p → LeadsSeats (Do.Wait (Asked q) (frame.Outside (Reaching q)) p) (frame.Call (Turning (ask.Routine m)) ∷ gs)
      → AllLead d l (frame.Call (Turning (ask.Routine m)) ∷ gs) p q (frame.Outside (Reaching q)) p → AskedAttended d l p q (frame.Outside (Reaching q)) (frame.Call (Turning (ask.Routine m)) ∷ gs) p
  reaching-attended fine seats leads = record {
    outside = λ e i h t acts.
        let right : is_fair d q i ≡ true = fair i h t acts in
        let same : heard d q i ≡ d = hears-nothing d q i outside in (
          right,
          record {
            fine = subst (GivenFine (heard d q i) (answered l q i) p.next Under) t (fine.outside e i right);
            seats = seats i h t;
            kids = before.kids;
            clean = subst (λ (z : Knowledge). Clean z p.next) (sym same) before.clean;
            claims = subst (λ (z : Knowledge). Claims z p h Under) (sym same) (reached-claims h (reached-leads p q i h t));
            tends = subst (λ (z : Knowledge). AllTend z h Under p) (sym same) (λ k c known. leads k c known i h t);
          },
        );
    itself = λ a e. let f : None ≡ Some a = sym (own-none d l p q outside) ∙ e in cc;
  }
