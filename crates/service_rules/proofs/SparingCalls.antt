-- A call that doesn't name an event spares it.
use Rattle.std.proofs.Common.{◌≡◌, ◌≢◌, ℕ, ◌+◌, ◌<◌, false, List, [], ◌∷◌, Option, Some, None, refl, sym, ◌∙◌, ap, ◌⊎◌, inl, inr, arith}
use Rattle.std.specs.Prelude.{nat_eq, codes}
use Rattle.tree_specs.specs.declared.object.Obj.{Obj}
use Rattle.tree_specs.specs.declared.object.Owner.{Owner}
use Rattle.tree_specs.specs.declared.object.Owner.TheVariants.{Of}
use Rattle.tree_specs.specs.declared.kind.Kind.TheVariants as kind
use Rattle.tree_specs.specs.declared.row.Row.{Row}
use Rattle.tree_specs.specs.declared.row.Mark.TheVariants as mark
use Rattle.tree_specs.specs.declared.request.Note.{Note}
use Rattle.tree_specs.specs.declared.call.Call.{Call}
use Rattle.tree_specs.specs.declared.call.Call.TheVariants as call
use Rattle.tree_specs.specs.declared.question.Ask.{Ask}
use Rattle.tree_specs.specs.declared.question.Ask.TheVariants as ask
use Rattle.tree_specs.specs.declared.frame.Frame.{Frame}
use Rattle.tree_specs.specs.declared.frame.Frame.TheVariants as frame
use Rattle.tree_specs.specs.declared.frame.CallFrame.TheVariants.{Requesting}
use Rattle.tree_specs.specs.declared.frame.Errand.{Errand}
use Rattle.tree_specs.specs.declared.frame.Errand.TheVariants.{Finish, Notify, Receive, Cancel}
use Rattle.tree_specs.specs.declared.watch.Watch.{Watch}
use Rattle.tree_specs.specs.Words.Objects.{same, first_context}
use Rattle.tree_specs.specs.Tree.Targets.{newest_ref}
use Rattle.tree_specs.specs.Tree.Pool.{Pool, row_of, new_row, edited, enter, marked_row, hooked_row, named_row, sized_row, limited_row}
use Rattle.tree_specs.specs.Events.Queues.{runs as runs_queue}
use Rattle.tree_specs.specs.Events.Requests.{note_of, with_note, new_note}
use Rattle.tree_specs.specs.Events.Rotation.{watch_of}
use Rattle.tree_specs.specs.Calls.Refusals.{Check, refusals_at}
use Rattle.tree_specs.specs.Calls.Plans.{Change, Plan, plan, planned_at, unless_refused, changed_by, frees}
use Rattle.tree_specs.specs.Calls.Plans.Change.{Nothing, Edit, Add, Place, Handle, Schedule, Unschedule, Arm, Watches, Rewatch, Close, TakeNumber, AddRequest, Renotes, Runs, AddQueue, AddEntry, LooksAt, Enter, Then}
use Rattle.tree_specs.specs.Calls.Plans.Plan.{Does, Frees, Unlinks, Empties, Asks, Turns, Works}
use Rattle.tree_specs.specs.Machine.Table.{plan_step, work_of}
use Rattle.tree_specs.proofs.Tree.Numbered.{by_test, same-false, same_or_not}
use Rattle.tree_specs.proofs.Events.NoteLaws.{noted-same, noted-other}
use Rattle.service_rules.proofs.Calling.{next-rises}
use Rattle.service_rules.proofs.Tending.{Tended, before-others, tended-on, tended-edited, tended-other, tended-placed, no-more, notes-renoted, rewatched-of}
use Rattle.service_rules.proofs.Sparing.{AllSpare, Tends, LeadsTends}

module _ (e k : Obj) (fd : ℕ) where
  -- ---- changes

  pub record KeepsRow (g : Row → Row) : Type 0 where
    pub serial : (r : Row) → (g r).serial ≡ r.serial
    pub kind : (r : Row) → (g r).kind ≡ r.kind
    pub hook : (r : Row) → r.hook ≡ 0 → (g r).hook ≡ 0
    pub owner : (r : Row) → (g r).owner ≡ r.owner

  abbrev pub SparesChange : Change → Type 0
  SparesChange (Edit x g) = KeepsRow g ⊎ (((r : Row) → (g r).serial ≡ r.serial) × (x ≢ e))
  SparesChange (Place o x) = x ≢ e
  SparesChange (Rewatch x g) = ((w : Watch) → (g w).object ≡ w.object) × ((w : Watch) → (g w).fd ≡ w.fd)
  SparesChange (Renotes x g) = (n : Note) → (g n).child ≡ n.child
  SparesChange (Then first second) = SparesChange first × SparesChange second
  SparesChange c = Unit {0}

  apart : (p q : Pool) → Tended e k fd p → row_of q.rows e ≡ row_of p.rows e → q.ring ≡ p.ring → q.requests ≡ p.requests → Tended e k fd q
  apart p q t rows ring requests = tended-on e k fd p t q rows (ap (λ ws. watch_of ws e) ring) (no-more e k fd p t q requests)

  -- a new row is another object's
  older : (n : ℕ) (rs : List Row) (r : Row) → r.serial ≡ record { 0 = n } → e.0 < n → row_of (r ∷ rs) e ≡ row_of rs e
  older n rs r is young =
      let other : same r.serial e ≡ false = same-false r.serial e (λ s. let i : n ≡ e.0 = ap (λ (z : Obj). z.0) (sym is ∙ s) in absurd (omega arith)) in
      rw other refl

  -- so is the note of a new request, and its object
  requested : (p : Pool) (o : Owner) (size : ℕ) (name : List ℕ) → e.0 < p.next → Tended e k fd p → Tended e k fd (changed_by (AddRequest o size name) p)
  requested p o size name young t = record {
    row = t.row;
    is = older (p.next + 1) (new_row (record { 0 = p.next }) kind.Request o 0 (codes "req") ∷ p.rows) (new_row (record { 0 = p.next + 1 }) kind.Plain (Of (record { 0 = p.next })) size name) refl (omega (arith, young)) ∙ older p.next p.rows (new_row (record { 0 = p.next }) kind.Request o 0 (codes "req")) refl young ∙ t.is;
    kind = t.kind;
    hook = t.hook;
    owner = t.owner;
    watch = t.watch;
    watches = t.watches;
    on = t.on;
    apart = λ x n h same_one. elim (same_or_not (record { 0 = p.next }) x) [
      | inl s ↦
          let h' : note_of (with_note p.requests x (new_note (record { 0 = p.next + 1 }))) x ≡ Some n = ap (λ (z : Obj). note_of (with_note p.requests z (new_note (record { 0 = p.next + 1 }))) x) (sym s) ∙ h in
          let i : Some (new_note (record { 0 = p.next + 1 })) ≡ Some n = sym (noted-same p.requests x (new_note (record { 0 = p.next + 1 }))) ∙ h' in
          let j : new_note (record { 0 = p.next + 1 }) ≡ n = cc in
          let c : p.next + 1 ≡ e.0 = ap (λ (z : Note). z.child.0) j ∙ ap (λ (z : Obj). z.0) same_one in absurd (omega arith)
      | inr other ↦ t.apart x n (sym (noted-other p.requests (record { 0 = p.next }) x (new_note (record { 0 = p.next + 1 })) other) ∙ h) same_one
    ];
  }

  -- a turn of a context begins
  entered : (p : Pool) (c : Obj) → Tended e k fd p → Tended e k fd (enter p c)
  entered p c t = by_test (same c first_context) (λ b. rw b t) (λ b. rw b (marked (apart p (record p { turning = Some c }) t refl refl refl)))
    where
      marked : Tended e k fd (record p { turning = Some c }) → Tended e k fd (edited (record p { turning = Some c }) c (marked_row mark.Busy))
      marked t' = tended-edited e k fd (record p { turning = Some c }) t' (marked_row mark.Busy) c (λ r. refl) (λ r. refl) (λ r h. h) (λ r. refl)

  pub change-tended : (c : Change) (p : Pool) → e.0 < p.next → SparesChange c → Tended e k fd p → Tended e k fd (changed_by c p)
  change-tended (Edit x g) p young (inl s) t = tended-edited e k fd p t g x s.serial s.kind s.hook s.owner
  change-tended (Edit x g) p young (inr s) t = tended-other e k fd p t g x s.0 s.1
  change-tended (Add sort o size name) p young s t = apart p (changed_by (Add sort o size name) p) t (older p.next p.rows (new_row (record { 0 = p.next }) sort o size name) refl young) refl refl
  change-tended (Place o x) p young s t = tended-placed e k fd p t o x s
  change-tended (Watches x n flags c) p young s t = tended-on e k fd p t (changed_by (Watches x n flags c) p) refl (before-others e k fd p t p.ring t.watch t.watches _ ∙ sym t.watches) (no-more e k fd p t (changed_by (Watches x n flags c) p) refl)
  change-tended (Rewatch x g) p young s t =
      let w = rewatched-of e k fd p t g x s.0 s.1 in
      record { row = t.row; is = t.is; kind = t.kind; hook = t.hook; owner = t.owner; watch = w.0; watches = w.1; on = w.2; apart = t.apart }
  change-tended (AddRequest o size name) p young s t = requested p o size name young t
  change-tended (Renotes x g) p young s t = tended-on e k fd p t (changed_by (Renotes x g) p) refl refl (notes-renoted e k fd p t g (changed_by (Renotes x g) p) x refl s)
  change-tended (AddQueue o name) p young s t = apart p (changed_by (AddQueue o name) p) t (older p.next p.rows (new_row (record { 0 = p.next }) kind.Queue o 0 name) refl young) refl refl
  change-tended (AddEntry q x trigger) p young s t = apart p (changed_by (AddEntry q x trigger) p) t (older p.next p.rows (new_row (record { 0 = p.next }) kind.Entry (Of x) 0 (codes "entry")) refl young) refl refl
  change-tended (Then first second) p young s t = let r = next-rises first p in change-tended second (changed_by first p) (omega (arith, young, r)) s.1 (change-tended first p young s.0 t)
  change-tended Nothing p young s t = t
  change-tended (Handle x handler) p young s t = apart p (changed_by (Handle x handler) p) t refl refl refl
  change-tended (Schedule x c) p young s t = apart p (changed_by (Schedule x c) p) t refl refl refl
  change-tended (Unschedule x) p young s t = apart p (changed_by (Unschedule x) p) t refl refl refl
  change-tended (Arm x time number c) p young s t = apart p (changed_by (Arm x time number c) p) t refl refl refl
  change-tended (Close n) p young s t = apart p (changed_by (Close n) p) t refl refl refl
  change-tended TakeNumber p young s t = apart p (changed_by TakeNumber p) t refl refl refl
  change-tended (Runs q running) p young s t = apart p (changed_by (Runs q running) p) t refl refl refl
  change-tended (LooksAt q) p young s t = apart p (changed_by (LooksAt q) p) t refl refl refl
  change-tended (Enter c) p young s t = entered p c t

  -- ---- calls

  -- it doesn't free, move or hook the event, nor free the children of anything
  abbrev pub SparesCall : Call → Type 0
  SparesCall (call.Free x) = x ≢ e
  SparesCall (call.Freekids x) = ⊥
  SparesCall (call.Steal o x) = x ≢ e
  SparesCall (call.Move o x) = x ≢ e
  SparesCall (call.Reparent from to x) = ⊥
  SparesCall (call.Unlink o x) = x ≢ e
  SparesCall (call.Hook x routine) = x ≢ e
  SparesCall c = Unit {0}

  abbrev SparesPlan : Plan → Type 0
  SparesPlan (Does c notice r) = SparesChange c
  SparesPlan (Frees x) = x ≢ e
  SparesPlan (Unlinks o x) = x ≢ e
  SparesPlan (Empties x) = ⊥
  SparesPlan (Works c errand x) = SparesChange c
  SparesPlan plan = Unit {0}

  frees-spares : (o : Option Obj) (x : Obj) → x ≢ e → SparesPlan (frees o x)
  frees-spares None x s = s
  frees-spares (Some r) x s = s

  kept-row : (g : Row → Row) → ((r : Row) → (g r).serial ≡ r.serial) → ((r : Row) → (g r).kind ≡ r.kind) → ((r : Row) → r.hook ≡ 0 → (g r).hook ≡ 0) → ((r : Row) → (g r).owner ≡ r.owner) → KeepsRow g
  kept-row g a b c d = record { serial = a; kind = b; hook = c; owner = d }

  plan-spares : (p : Pool) (c : Call) → SparesCall c → SparesPlan (plan p c)
  plan-spares p (call.Free x) s = frees-spares (newest_ref p.rows x) x s
  plan-spares p (call.Freekids x) s = absurd s
  plan-spares p (call.Steal o x) s = s
  plan-spares p (call.Move o x) s = s
  plan-spares p (call.Reparent from to x) s = absurd s
  plan-spares p (call.Unlink o x) s = s
  plan-spares p (call.Hook x routine) s = inr ((λ r. refl), s)
  plan-spares p (call.Unhook x) s = inl (kept-row (hooked_row 0) (λ r. refl) (λ r. refl) (λ r h. refl) (λ r. refl))
  plan-spares p (call.Rename x name) s = inl (kept-row (named_row name) (λ r. refl) (λ r. refl) (λ r h. h) (λ r. refl))
  plan-spares p (call.Resize x size) s = inl (kept-row (sized_row size) (λ r. refl) (λ r. refl) (λ r h. h) (λ r. refl))
  plan-spares p (call.Limit x max) s = inl (kept-row (limited_row max) (λ r. refl) (λ r. refl) (λ r h. h) (λ r. refl))
  plan-spares p (call.Schedule x routine user c) s = by_test (nat_eq routine 0) (λ b. rw b tt) (λ b. rw b (tt, tt))
  plan-spares p (call.Timer o time routine user c) s = (tt, (tt, tt))
  plan-spares p (call.Fd o n flags routine user c) s = (tt, (tt, tt))
  plan-spares p (call.Flags x flags) s = ((λ w. refl), (λ w. refl))
  plan-spares p (call.Autoclose x) s = ((λ w. refl), (λ w. refl))
  plan-spares p (call.Callback x routine user) s = λ n. refl
  plan-spares p (call.Defer x c) s = λ n. refl
  plan-spares p (call.Cleanup x routine) s = λ n. refl
  plan-spares p (call.Setcancel x routine) s = λ n. refl
  plan-spares p (call.Error x error) s = by_test (nat_eq error 0) (λ b. rw b tt) (λ b. rw b (λ n. refl))
  plan-spares p (call.Endtime x time c) s = (tt, tt)
  plan-spares p (call.Start q) s = by_test (runs_queue p.queues q) (λ b. rw b tt) (λ b. rw b (tt, tt))
  plan-spares p _ s = tt

  planned-spares : (q : Ask) (p : Pool) (c : Call) → SparesCall c → SparesPlan (planned_at q p c)
  planned-spares q p c s = each (refusals_at q p c)
    where
      each : (check : Check) → SparesPlan (unless_refused check (plan p c))
      each [] = plan-spares p c s
      each (why ∷ more) = tt

  module _ (fs : List Frame) (p : Pool) (young : e.0 < p.next) (t : Tended e k fd p) (spare : AllSpare e k fs) where
    errand-tends : (errand : Errand) (x : Obj) (f : Frame) (q : Pool) → Tended e k fd q → AllSpare e k (f ∷ fs) → Tends e k fd (work_of errand x) (f ∷ fs) q
    errand-tends (Finish s) x f q t' s' = inl (t', (tt, s'))
    errand-tends Notify x f q t' s' = inl (t', (tt, s'))
    errand-tends Receive x f q t' s' = inl (t', (tt, s'))
    errand-tends Cancel x f q t' s' = inl (t', (tt, s'))

    step-spares : (q : Ask) (plan : Plan) → SparesPlan plan → LeadsTends e k fd (plan_step q plan p) fs
    step-spares q (Does c None r) s = inl (change-tended c p young s t, (tt, spare))
    step-spares q (Does c (Some notice) r) s = inl (change-tended c p young s t, (tt, spare))
    step-spares q (Frees x) s = inl (t, (s, (tt, spare)))
    step-spares q (Unlinks o x) s = inl (t, (s, (tt, spare)))
    step-spares q (Empties x) s = absurd s
    step-spares q (Asks o) s = inl (t, (tt, (tt, spare)))
    step-spares ask.Quiet (Turns c) s = inl (entered p c t, (tt, (tt, spare)))
    step-spares _ (Turns c) s = inl (t, (tt, spare))
    step-spares q (Works c errand x) s = errand-tends errand x (frame.Call (Requesting q)) (changed_by c p) (change-tended c p young s t) (tt, spare)

    pub call-spares : (q : Ask) (c : Call) → SparesCall c → LeadsTends e k fd (plan_step q (planned_at q p c) p) fs
    call-spares q c s = step-spares q (planned_at q p c) (planned-spares q p c s)
