-- What each change of the pool leaves of what holds of queues.
use Rattle.std.proofs.Common.{◌≡◌, ◌≢◌, ◌⊎◌, ℕ, Bool, true, false, not, List, [], ◌∷◌, Option, Some, None, refl, sym, ap, subst, ◌∙◌, inl, inr}
use Rattle.std.specs.Prelude.{is_some, ◌&&◌, codes, if◌then◌else◌}
use Rattle.std.specs.declared.cmp.Ordering.{Ordering}
use Rattle.std.specs.declared.cmp.Ordering.TheVariants.{Less, Equal, Greater}
use Rattle.std.specs.Ordering.{nat_cmp, eq_by_cmp}
use Rattle.std.specs.List.{filter}
use Rattle.std.specs.FinMap.{nat_cmp-IsAntisymmetric}
use Rattle.std.specs.FinMap.Entries.{find, put}
use Rattle.std.specs.Cmp.{unsigned_tied}
use Rattle.tree_specs.specs.declared.object.Obj.{Obj}
use Rattle.tree_specs.specs.declared.object.Owner.{Owner}
use Rattle.tree_specs.specs.declared.object.Owner.TheVariants.{Of}
use Rattle.tree_specs.specs.declared.kind.Kind.{Kind}
use Rattle.tree_specs.specs.declared.kind.Kind.TheVariants as kind
use Rattle.tree_specs.specs.declared.row.Row.{Row}
use Rattle.tree_specs.specs.declared.handler.Handler.{Handler}
use Rattle.tree_specs.specs.declared.queue.QueueEntry.{QueueEntry}
use Rattle.tree_specs.specs.declared.frame.Frame.{Frame}
use Rattle.tree_specs.specs.Words.Objects.{same}
use Rattle.tree_specs.specs.Tree.Targets.{target_of, newest_ref}
use Rattle.tree_specs.specs.Tree.Pool.{Pool, target_at, target_in, row_of, passes, is_dying_mark, changed, without, remove, place, add, new_row, let_go, run_queue, trigger, add_queue, add_entry}
use Rattle.tree_specs.specs.Tree.Forest.{Distinct}
use Rattle.tree_specs.specs.Events.Queues.{Queues, Head, has_queue, entry_of, is_entered, head_in, has_entries, next_of, runs, untriggered, triggered_entry, new_entry}
use Rattle.tree_specs.specs.Calls.Refusals.{is_entry, is_queue, is_request, is_referable, is_queue_row, is_request_row}
use Rattle.tree_specs.specs.Invariants.Sound.{IsIdleEntry, IsReferable, Refers, MayBePlaced, phases, phase_of}
use Rattle.tree_specs.specs.Invariants.Queued.{IsEntryRow, IsQueued, AllQueued, is_live_entry, drains, QueuesHold}
use Rattle.tree_specs.proofs.Tree.Numbered.{by_test, same-true, same-equal, same-false, same_or_not}
use Rattle.tree_specs.proofs.Tree.Referring.{unreferred}
use Rattle.tree_specs.proofs.Tree.Rows.{row_of-changed-other, row_of-changed-same, row_of-without-other, row_of-without-same, row_of-placed-other, row_of-placed-same}
use Rattle.tree_specs.proofs.Events.EntryLaws.{with-same, with-other, without-same, without-other}
use Rattle.tree_specs.proofs.Events.QueueLaws.{has-without, has-with}

-- ---- one entry

entry-kind : (k : Kind) → is_entry k ≡ true → (target_of k ≡ None) × (is_referable k ≡ false)
entry-kind kind.Entry e = (refl, refl)
entry-kind _ e = cc

pub idle-entry : (x : Obj) (o : Option Row) → IsEntryRow x o → IsIdleEntry o
idle-entry x None h = absurd h
idle-entry x (Some r) h = (h.0, h.1, h.2)

entry-target : (x : Obj) (o : Option Row) → IsEntryRow x o → target_in o ≡ None
entry-target x None h = absurd h
entry-target x (Some r) h = (entry-kind r.kind h.0).0

pub entry-object : (p : Pool) (x : Obj) (e : QueueEntry) → IsQueued p x e → target_at p.rows x ≡ None
entry-object p x e w = entry-target e.request (row_of p.rows x) w.entry

pub entry-unreferable : (x : Obj) (o : Option Row) → IsEntryRow x o → IsReferable o → ⊥
entry-unreferable x None h r = r
entry-unreferable x (Some s) h r = let bad : true ≡ false = sym r.0 ∙ (entry-kind s.kind h.0).1 in cc

-- there is no reference to it
pub entry-unreferred : (p : Pool) (x : Obj) (e : QueueEntry) → Distinct p.rows → Refers p.rows → IsQueued p x e → newest_ref p.rows x ≡ None
entry-unreferred p x e distinct refers w = unreferred p.rows x distinct (entry-unreferable e.request (row_of p.rows x) w.entry) refers

-- ---- all of them

number-is : (x : Obj) (n : ℕ) → x.0 ≡ n → x ≡ record { 0 = n }
number-is x n e = ap (λ (m : ℕ). record { 0 = m }) e

tied-number : (a b : ℕ) → eq_by_cmp nat_cmp a b ≡ true → a ≡ b
tied-number a b t = each (nat_cmp a b) refl
  where
    each : (o : Ordering) → nat_cmp a b ≡ o → a ≡ b
    each Equal k = nat_cmp-IsAntisymmetric a b k
    each Less k = let bad : false ≡ true = rw k at t in cc
    each Greater k = let bad : false ≡ true = rw k at t in cc

itself : (x : Obj) (n : ℕ) → x.0 ≡ n → eq_by_cmp nat_cmp x.0 n ≡ true
itself x n e = ap (eq_by_cmp nat_cmp x.0) (sym e) ∙ unsigned_tied x.0 x.0 ∙ same-equal x x refl

pub find-waiting : (p : Pool) (es : List (ℕ × QueueEntry)) (x : Obj) (e : QueueEntry) → AllQueued p es → find nat_cmp x.0 es ≡ Some e → IsQueued p x e
find-waiting p [] x e all k = cc
find-waiting p (s ∷ es) x e all k = by_test (eq_by_cmp nat_cmp x.0 s.0)
    (λ t.
    let k' : Some s.1 ≡ Some e = rw t at k in
    let is : s.1 ≡ e = cc in
    subst (λ (z : Obj). IsQueued p z e) (sym (number-is x s.0 (tied-number x.0 s.0 t))) (subst (λ (z : QueueEntry). IsQueued p (record { 0 = s.0 }) z) is all.0))
    (λ t. find-waiting p es x e all.1 (rw t at k))

pub head-waiting : (p : Pool) (es : List (ℕ × QueueEntry)) (q : Obj) (h : Head) → AllQueued p es → head_in es q ≡ Some h → IsQueued p h.object h.entry
head-waiting p [] q h all e = cc
head-waiting p (s ∷ es) q h all e = by_test (same s.1.queue q)
    (λ t.
    let e' : Some (record { object = record { 0 = s.0 }; entry = s.1 }) ≡ Some h = rw t at e in
    let is : record { object = record { 0 = s.0 }; entry = s.1 } ≡ h = cc in
    subst (λ (z : Head). IsQueued p z.object z.entry) is all.0)
    (λ t. head-waiting p es q h all.1 (rw t at e))

pub head-queue : (es : List (ℕ × QueueEntry)) (q : Obj) (h : Head) → head_in es q ≡ Some h → same h.entry.queue q ≡ true
head-queue [] q h e = cc
head-queue (s ∷ es) q h e = by_test (same s.1.queue q)
    (λ t.
    let e' : Some (record { object = record { 0 = s.0 }; entry = s.1 }) ≡ Some h = rw t at e in
    let is : record { object = record { 0 = s.0 }; entry = s.1 } ≡ h = cc in
    subst (λ (z : Head). same z.entry.queue q ≡ true) is t)
    (λ t. head-queue es q h (rw t at e))

pub next-head : (qs : Queues) (q : Obj) (h : Head) → next_of qs q ≡ Some h → head_in qs.entries q ≡ Some h
next-head qs q h e = running (runs qs q) e
  where
    waits : (b : Bool) (g : Head) → (if b then None else Some g) ≡ Some h → Some g ≡ Some h
    waits true g t = cc
    waits false g t = t

    each : (o : Option Head) → untriggered o ≡ Some h → o ≡ Some h
    each None t = cc
    each (Some g) t = waits g.entry.triggered g t

    running : (b : Bool) → (if b then untriggered (head_in qs.entries q) else None) ≡ Some h → head_in qs.entries q ≡ Some h
    running true t = each (head_in qs.entries q) t
    running false t = cc

-- each waits in another pool as it does in this
pub waiting-kept : (p q : Pool) (es : List (ℕ × QueueEntry)) → ((x : Obj) (e : QueueEntry) → IsQueued p x e → IsQueued q x e) → AllQueued p es → AllQueued q es
waiting-kept p q [] keeps all = tt
waiting-kept p q (e ∷ es) keeps all = (keeps (record { 0 = e.0 }) e.1 all.0, waiting-kept p q es keeps all.1)

-- so it is of all but one that is taken out
pub waiting-without : (p q : Pool) (es : List (ℕ × QueueEntry)) (x : Obj) → ((y : Obj) (e : QueueEntry) → x ≢ y → IsQueued p y e → IsQueued q y e) → AllQueued p es
    → AllQueued q (filter (λ e. not (eq_by_cmp nat_cmp x.0 e.0)) es)
waiting-without p q [] x keeps all = tt
waiting-without p q (e ∷ es) x keeps all = by_test (eq_by_cmp nat_cmp x.0 e.0)
    (λ t. rw t (waiting-without p q es x keeps all.1))
    (λ t. rw t (keeps (record { 0 = e.0 }) e.1 (λ is. let u = itself x e.0 (ap (λ (z : Obj). z.0) is) in let bad : true ≡ false = sym u ∙ t in cc) all.0, waiting-without p q es x keeps all.1))

-- and where none is in this queue
pub waiting-elsewhere : (p q : Pool) (es : List (ℕ × QueueEntry)) (x : Obj) → is_some (head_in es x) ≡ false → ((y : Obj) (e : QueueEntry) → x ≢ e.queue → IsQueued p y e → IsQueued q y e) → AllQueued p es → AllQueued q es
waiting-elsewhere p q [] x none keeps all = tt
waiting-elsewhere p q (e ∷ es) x none keeps all = by_test (same e.1.queue x)
    (λ t. let bad : true ≡ false = rw t at none in cc)
    (λ t. (keeps (record { 0 = e.0 }) e.1 (λ is. let u = same-equal e.1.queue x (sym is) in let bad : true ≡ false = sym u ∙ t in cc) all.0, waiting-elsewhere p q es x (rw t at none) keeps all.1))

pub waiting-with : (p : Pool) (es : List (ℕ × QueueEntry)) (x : Obj) (entry : QueueEntry) → IsQueued p x entry → AllQueued p es → AllQueued p (put nat_cmp x.0 entry es)
waiting-with p [] x entry one all = (one, tt)
waiting-with p (e ∷ es) x entry one all = each (nat_cmp x.0 e.0) refl (waiting-with p es x entry one all.1)
  where
    each : (o : Ordering) → nat_cmp x.0 e.0 ≡ o → AllQueued p (put nat_cmp x.0 entry es) → AllQueued p (put nat_cmp x.0 entry (e ∷ es))
    each Less k more = rw k (one, (all.0, all.1))
    each Equal k more = rw k (subst (λ (z : Obj). IsQueued p z entry) (number-is x e.0 (nat_cmp-IsAntisymmetric x.0 e.0 k)) one, all.1)
    each Greater k more = rw k (all.0, more)

-- ---- what is so of an object

-- no entry
pub not-entered : (p : Pool) (fs : List Frame) (x : Obj) → QueuesHold fs p → is_live_entry (row_of p.rows x) ≡ false → entry_of p.queues x ≡ None
not-entered p fs x h live = each (entry_of p.queues x) (h.entries x ∙ live)
  where
    each : (o : Option QueueEntry) → is_some o ≡ false → o ≡ None
    each None e = refl
    each (Some e) t = cc

-- what is no queue has no entries
pub no-entries : (p : Pool) (es : List (ℕ × QueueEntry)) (q : Obj) → AllQueued p es → is_queue_row (row_of p.rows q) ≡ false → is_some (head_in es q) ≡ false
no-entries p [] q all no_queue = refl
no-entries p (e ∷ es) q all no_queue = by_test (same e.1.queue q)
    (λ t. let w : is_queue_row (row_of p.rows q) ≡ true = subst (λ (z : Obj). is_queue_row (row_of p.rows z) ≡ true) (same-true e.1.queue q t) all.0.queue in let bad : true ≡ false = sym w ∙ no_queue in cc)
    (λ t. rw t (no-entries p es q all.1 no_queue))

-- ---- changes

-- the same queues and entries, over rows that are alike
pub holds : (fs gs : List Frame) (p q : Pool) → QueuesHold fs p → q.queues ≡ p.queues → ((y : Obj) → is_queue_row (row_of q.rows y) ≡ is_queue_row (row_of p.rows y))
    → ((y : Obj) → is_request_row (row_of p.rows y) ≡ true → is_request_row (row_of q.rows y) ≡ true) → ((y : Obj) → is_live_entry (row_of q.rows y) ≡ is_live_entry (row_of p.rows y))
    → ((y r : Obj) → is_entered p.queues y ≡ true → IsEntryRow r (row_of p.rows y) → IsEntryRow r (row_of q.rows y))
    → ((y : Obj) → has_entries p.queues y ≡ true → (phases (row_of p.rows y) ≡ []) ⊎ (drains y fs ≡ true) → (phases (row_of q.rows y) ≡ []) ⊎ (drains y gs ≡ true)) → QueuesHold gs q
holds fs gs p q h same_queues queues requests lives entries idle = record {
  queues = λ y. ap (λ qs. has_queue qs y) same_queues ∙ h.queues y ∙ sym (queues y);
  entries = λ y. ap (λ qs. is_entered qs y) same_queues ∙ h.entries y ∙ sym (lives y);
  waiting = subst (λ (qs : Queues). AllQueued q qs.entries) (sym same_queues) (waiting-kept p q p.queues.entries waits h.waiting);
  idle = λ y t. (let t' : has_entries p.queues y ≡ true = ap (λ qs. has_entries qs y) (sym same_queues) ∙ t in idle y t' (h.idle y t'));
}
  where
    live : (r : Obj) (o : Option Row) → IsEntryRow r o → is_live_entry o ≡ true
    live r None e = absurd e
    live r (Some s) e = rw (e.0, e.1) refl

    waits : (x : Obj) (e : QueueEntry) → IsQueued p x e → IsQueued q x e
    waits x e w = record {
      entry = entries x e.request (h.entries x ∙ live e.request (row_of p.rows x) w.entry) w.entry;
      request = requests e.request w.request;
      queue = queues e.queue ∙ w.queue;
    }

-- the same rows
pub same-queues : (fs gs : List Frame) (p q : Pool) → QueuesHold fs p → q.rows ≡ p.rows → q.queues ≡ p.queues → ((y : Obj) → has_entries p.queues y ≡ true → drains y fs ≡ true → drains y gs ≡ true) → QueuesHold gs q
same-queues fs gs p q h rows queues more = holds fs gs p q h queues (λ y. ap (λ rs. is_queue_row (row_of rs y)) rows) (λ y t. ap (λ rs. is_request_row (row_of rs y)) rows ∙ t) (λ y. ap (λ rs. is_live_entry (row_of rs y)) rows)
    (λ y r t e. rw rows e)
    (λ y t i. elim i [
      | inl none ↦ inl (rw rows none)
      | inr d ↦ inr (more y t d)
    ])

-- one row is changed
pub changed-queues : (g : Row → Row) (fs gs : List Frame) (p : Pool) (x : Obj) (r : Row) → QueuesHold fs p → row_of p.rows x ≡ Some r → ((s : Row) → (g s).serial ≡ s.serial) → ((s : Row) → (g s).kind ≡ s.kind)
    → is_dying_mark (g r).mark ≡ is_dying_mark r.mark → (is_entered p.queues x ≡ true → (o : Obj) → IsEntryRow o (Some r) → IsEntryRow o (Some (g r)))
    → ((y : Obj) → x ≢ y → has_entries p.queues y ≡ true → drains y fs ≡ true → drains y gs ≡ true)
    → (has_entries p.queues x ≡ true → (phase_of r.kind r.mark ≡ []) ⊎ (drains x fs ≡ true) → (phase_of (g r).kind (g r).mark ≡ []) ⊎ (drains x gs ≡ true)) → QueuesHold gs (record p { rows = changed g p.rows x })
changed-queues g fs gs p x r h e serial kind_is dying entry more here = holds fs gs p (record p { rows = changed g p.rows x }) h refl
    (λ y. at y (λ a b. is_queue_row a ≡ is_queue_row b) (λ o. refl) (ap is_queue (kind_is r)))
    (λ y t. at y (λ a b. is_request_row a ≡ is_request_row b) (λ o. refl) (ap is_request (kind_is r)) ∙ t)
    (λ y. at y (λ a b. is_live_entry a ≡ is_live_entry b) (λ o. refl) (let k = kind_is r in rw (k, dying) refl))
    (λ y o t. elim (same_or_not x y) [
      | inl is ↦ subst (λ (z : Obj). is_entered p.queues z ≡ true → IsEntryRow o (row_of p.rows z) → IsEntryRow o (row_of (changed g p.rows x) z)) is (λ u w. let w' : IsEntryRow o (Some r) = rw e at w in rw new (entry u o w')) t
      | inr ne ↦ λ w. rw (row_of-changed-other g p.rows x y serial ne) w
    ])
    (λ y t i. elim (same_or_not x y) [
      | inl is ↦ subst (λ (z : Obj). (phases (row_of (changed g p.rows x) z) ≡ []) ⊎ (drains z gs ≡ true)) is (rw new (here (subst (λ (z : Obj). has_entries p.queues z ≡ true) (sym is) t) (rw e at (subst (λ (z : Obj). (phases (row_of p.rows z) ≡ []) ⊎ (drains z fs ≡ true)) (sym is) i))))
      | inr ne ↦ elim i [
        | inl none ↦ inl (ap phases (row_of-changed-other g p.rows x y serial ne) ∙ none)
        | inr d ↦ inr (more y ne t d)
      ]
    ])
  where
    new : row_of (changed g p.rows x) x ≡ Some (g r)
    new = row_of-changed-same g p.rows x r serial e

    at : (y : Obj) (P : Option Row → Option Row → Type 0) → ((o : Option Row) → P o o) → P (Some (g r)) (Some r) → P (row_of (changed g p.rows x) y) (row_of p.rows y)
    at y P always one = elim (same_or_not x y) [
      | inl is ↦ subst (λ (z : Obj). P (row_of (changed g p.rows x) z) (row_of p.rows z)) is (subst (λ (w : Option Row). P w (row_of p.rows x)) (sym new) (subst (λ (w : Option Row). P (Some (g r)) w) (sym e) one))
      | inr ne ↦ subst (λ (w : Option Row). P w (row_of p.rows y)) (sym (row_of-changed-other g p.rows x y serial ne)) (always (row_of p.rows y))
    ]

-- what is no entry goes to another owner
pub placed-queues : (fs gs : List Frame) (p : Pool) (o : Owner) (x : Obj) → MayBePlaced p o x → entry_of p.queues x ≡ None → QueuesHold fs p → ((y : Obj) → drains y fs ≡ true → drains y gs ≡ true) → QueuesHold gs (place p o x)
placed-queues fs gs p o x may none h more = holds fs gs p (place p o x) h refl
    (λ y. at y (λ a b. is_queue_row a ≡ is_queue_row b) (λ w. refl) refl)
    (λ y t. at y (λ a b. is_request_row a ≡ is_request_row b) (λ w. refl) refl ∙ t)
    (λ y. at y (λ a b. is_live_entry a ≡ is_live_entry b) (λ w. refl) refl)
    (λ y r t w. elim (same_or_not x y) [
      | inl is ↦ let t' : is_entered p.queues x ≡ true = subst (λ (z : Obj). is_entered p.queues z ≡ true) (sym is) t in let bad : false ≡ true = rw none at t' in cc
      | inr ne ↦ rw (row_of-placed-other p o x y may.row may.is ne) w
    ])
    (λ y t i. elim i [
      | inl quiet ↦ inl (at y (λ a b. phases b ≡ [] → phases a ≡ []) (λ w q. q) (λ q. q) quiet)
      | inr d ↦ inr (more y d)
    ])
  where
    at : (y : Obj) (P : Option Row → Option Row → Type 0) → ((w : Option Row) → P w w) → P (Some (record may.row { owner = Some o })) (Some may.row) → P (row_of (place p o x).rows y) (row_of p.rows y)
    at y P always one = elim (same_or_not x y) [
      | inl is ↦ subst (λ (z : Obj). P (row_of (place p o x).rows z) (row_of p.rows z)) is
          (subst (λ (w : Option Row). P w (row_of p.rows x)) (sym (row_of-placed-same p o x may.row may.is)) (subst (λ (w : Option Row). P (Some (record may.row { owner = Some o })) w) (sym may.is) one))
      | inr ne ↦ subst (λ (w : Option Row). P w (row_of p.rows y)) (sym (row_of-placed-other p o x y may.row may.is ne)) (always (row_of p.rows y))
    ]

live-entry : (r : Obj) (o : Option Row) → IsEntryRow r o → is_live_entry o ≡ true
live-entry r None e = absurd e
live-entry r (Some s) e = rw (e.0, e.1) refl

-- an object leaves its queue, and comes no more
pub gone-queues : (g : Row → Row) (fs gs : List Frame) (p : Pool) (x : Obj) (r : Row) → QueuesHold fs p → row_of p.rows x ≡ Some r → ((s : Row) → (g s).serial ≡ s.serial) → ((s : Row) → (g s).kind ≡ s.kind)
    → is_live_entry (Some (g r)) ≡ false → ((y : Obj) → x ≢ y → has_entries p.queues y ≡ true → drains y fs ≡ true → drains y gs ≡ true)
    → (has_entries p.queues x ≡ true → (phase_of (g r).kind (g r).mark ≡ []) ⊎ (drains x gs ≡ true)) → QueuesHold gs (let_go p x g)
gone-queues g fs gs p x r h e serial kind_is live more here = record { queues = queues; entries = entries; waiting = waiting-without p (let_go p x g) p.queues.entries x waits h.waiting; idle = idle }
  where
    new : row_of (changed g p.rows x) x ≡ Some (g r)
    new = row_of-changed-same g p.rows x r serial e

    other : (y : Obj) → x ≢ y → row_of (changed g p.rows x) y ≡ row_of p.rows y
    other y ne = row_of-changed-other g p.rows x y serial ne

    kinds : (y : Obj) (test : Kind → Bool) → passes (λ s. test s.kind) (row_of (changed g p.rows x) y) ≡ passes (λ s. test s.kind) (row_of p.rows y)
    kinds y test = elim (same_or_not x y) [
      | inl is ↦ subst (λ (z : Obj). passes (λ s. test s.kind) (row_of (changed g p.rows x) z) ≡ passes (λ s. test s.kind) (row_of p.rows z)) is (ap (passes (λ s. test s.kind)) new ∙ ap test (kind_is r) ∙ sym (ap (passes (λ s. test s.kind)) e))
      | inr ne ↦ ap (passes (λ s. test s.kind)) (other y ne)
    ]

    queues : (y : Obj) → has_queue p.queues y ≡ is_queue_row (row_of (changed g p.rows x) y)
    queues y = h.queues y ∙ sym (kinds y is_queue)

    entries : (y : Obj) → is_entered (let_go p x g).queues y ≡ is_live_entry (row_of (changed g p.rows x) y)
    entries y = elim (same_or_not x y) [
      | inl is ↦ subst (λ (z : Obj). is_entered (let_go p x g).queues z ≡ is_live_entry (row_of (changed g p.rows x) z)) is (ap is_some (without-same p.queues.entries x x (same-equal x x refl)) ∙ sym (ap is_live_entry new ∙ live))
      | inr ne ↦ ap is_some (without-other p.queues.entries x y (same-false y x (λ q. ne (sym q)))) ∙ h.entries y ∙ sym (ap is_live_entry (other y ne))
    ]

    waits : (y : Obj) (w : QueueEntry) → x ≢ y → IsQueued p y w → IsQueued (let_go p x g) y w
    waits y w ne i = record { entry = rw (other y ne) i.entry; request = kinds w.request is_request ∙ i.request; queue = kinds w.queue is_queue ∙ i.queue }

    idle : (y : Obj) → has_entries (let_go p x g).queues y ≡ true → (phases (row_of (changed g p.rows x) y) ≡ []) ⊎ (drains y gs ≡ true)
    idle y t =
        let t' : has_entries p.queues y ≡ true = has-without (λ w. not (eq_by_cmp nat_cmp x.0 w.0)) p.queues.entries y t in
        elim (same_or_not x y) [
          | inl is ↦ subst (λ (z : Obj). (phases (row_of (changed g p.rows x) z) ≡ []) ⊎ (drains z gs ≡ true)) is (rw new (here (subst (λ (z : Obj). has_entries p.queues z ≡ true) (sym is) t')))
          | inr ne ↦ elim (h.idle y t') [
            | inl quiet ↦ inl (ap phases (other y ne) ∙ quiet)
            | inr d ↦ inr (more y ne t' d)
          ]
        ]

-- an object is no more: no entry, no queue with entries, and no request that has any
pub removed-queues : (fs gs : List Frame) (p : Pool) (x : Obj) → Distinct p.rows → QueuesHold fs p → is_live_entry (row_of p.rows x) ≡ false → has_entries p.queues x ≡ false
    → ((y : Obj) (w : QueueEntry) → IsQueued p y w → x ≢ w.request) → ((y : Obj) → x ≢ y → drains y fs ≡ true → drains y gs ≡ true) → QueuesHold gs (remove p x)
removed-queues fs gs p x d h live none alone more = record { queues = queues; entries = entries; waiting = waiting-elsewhere p (remove p x) p.queues.entries x none waits h.waiting; idle = idle }
  where
    gone : row_of (without p.rows x) x ≡ None
    gone = row_of-without-same p.rows x d

    other : (y : Obj) → x ≢ y → row_of (without p.rows x) y ≡ row_of p.rows y
    other y ne = row_of-without-other p.rows x y ne

    queues : (y : Obj) → has_queue (remove p x).queues y ≡ is_queue_row (row_of (without p.rows x) y)
    queues y = elim (same_or_not x y) [
      | inl is ↦ subst (λ (z : Obj). has_queue (remove p x).queues z ≡ is_queue_row (row_of (without p.rows x) z)) is (ap is_some (without-same p.queues.running x x (same-equal x x refl)) ∙ sym (ap is_queue_row gone))
      | inr ne ↦ ap is_some (without-other p.queues.running x y (same-false y x (λ q. ne (sym q)))) ∙ h.queues y ∙ sym (ap is_queue_row (other y ne))
    ]

    entries : (y : Obj) → is_entered p.queues y ≡ is_live_entry (row_of (without p.rows x) y)
    entries y = elim (same_or_not x y) [
      | inl is ↦ subst (λ (z : Obj). is_entered p.queues z ≡ is_live_entry (row_of (without p.rows x) z)) is (h.entries x ∙ live ∙ sym (ap is_live_entry gone))
      | inr ne ↦ h.entries y ∙ sym (ap is_live_entry (other y ne))
    ]

    waits : (y : Obj) (w : QueueEntry) → x ≢ w.queue → IsQueued p y w → IsQueued (remove p x) y w
    waits y w ne i = record {
      entry = elim (same_or_not x y) [
        | inl is ↦ (let l : is_live_entry (row_of p.rows x) ≡ true = subst (λ (z : Obj). is_live_entry (row_of p.rows z) ≡ true) (sym is) (live-entry w.request (row_of p.rows y) i.entry) in let bad : true ≡ false = sym l ∙ live in cc)
        | inr apart ↦ rw (other y apart) i.entry
      ];
      request = ap is_request_row (other w.request (alone y w i)) ∙ i.request;
      queue = ap is_queue_row (other w.queue ne) ∙ i.queue;
    }

    idle : (y : Obj) → has_entries p.queues y ≡ true → (phases (row_of (without p.rows x) y) ≡ []) ⊎ (drains y gs ≡ true)
    idle y t = elim (same_or_not x y) [
      | inl is ↦ (let t' : has_entries p.queues x ≡ true = subst (λ (z : Obj). has_entries p.queues z ≡ true) (sym is) t in let bad : true ≡ false = sym t' ∙ none in cc)
      | inr ne ↦ elim (h.idle y t) [
        | inl quiet ↦ inl (ap phases (other y ne) ∙ quiet)
        | inr s ↦ inr (more y ne s)
      ]
    ]

-- ---- new objects

module _ (p : Pool) (nobody : row_of p.rows (record { 0 = p.next }) ≡ None) where
  abbrev n : Obj
  n = record { 0 = p.next }

  -- what passes a test before is another object
  behind : (k : Kind) (o : Owner) (size : ℕ) (name : List ℕ) (y : Obj) → (row_of p.rows y ≡ None → ⊥) → row_of (add p k o size name).rows y ≡ row_of p.rows y
  behind k o size name y there = by_test (same n y)
      (λ t. absurd (there (subst (λ (z : Obj). row_of p.rows z ≡ None) (same-true n y t) nobody)))
      (λ t. rw t refl)

  passing : (test : Row → Bool) (y : Obj) → passes test (row_of p.rows y) ≡ true → row_of p.rows y ≡ None → ⊥
  passing test y t none = let bad : false ≡ true = rw none at t in cc

  entry-there : (r y : Obj) → IsEntryRow r (row_of p.rows y) → row_of p.rows y ≡ None → ⊥
  entry-there r y w none = let bad : IsEntryRow r None = rw none at w in bad

  waits-behind : (k : Kind) (o : Owner) (size : ℕ) (name : List ℕ) (q : Pool) → q.rows ≡ (add p k o size name).rows → (y : Obj) (w : QueueEntry) → IsQueued p y w → IsQueued q y w
  waits-behind k o size name q rows y w i = record {
    entry = rw (rows, behind k o size name y (entry-there w.request y i.entry)) i.entry;
    request = rw (rows, behind k o size name w.request (passing (λ s. is_request s.kind) w.request i.request)) i.request;
    queue = rw (rows, behind k o size name w.queue (passing (λ s. is_queue s.kind) w.queue i.queue)) i.queue;
  }

  -- a test of the new row, or of another one
  at-new : (k : Kind) (o : Owner) (size : ℕ) (name : List ℕ) (test : Row → Bool) (y : Obj) → test (new_row n k o size name) ≡ false → passes test (row_of p.rows y) ≡ passes test (row_of (add p k o size name).rows y)
  at-new k o size name test y fails = by_test (same n y)
      (λ t. let none : row_of p.rows y ≡ None = subst (λ (z : Obj). row_of p.rows z ≡ None) (same-true n y t) nobody in rw (t, none) (sym fails))
      (λ t. rw t refl)

  idle-behind : (k : Kind) (o : Owner) (size : ℕ) (name : List ℕ) (y : Obj) → phases (row_of p.rows y) ≡ [] → phases (row_of (add p k o size name).rows y) ≡ []
  idle-behind k o size name y quiet = by_test (same n y) (λ t. rw t refl) (λ t. rw t quiet)

  more-idle : (fs gs : List Frame) (k : Kind) (o : Owner) (size : ℕ) (name : List ℕ) → ((y : Obj) → drains y fs ≡ true → drains y gs ≡ true) → QueuesHold fs p → (y : Obj) → has_entries p.queues y ≡ true
      → (phases (row_of (add p k o size name).rows y) ≡ []) ⊎ (drains y gs ≡ true)
  more-idle fs gs k o size name more h y t = elim (h.idle y t) [
    | inl quiet ↦ inl (idle-behind k o size name y quiet)
    | inr d ↦ inr (more y d)
  ]

  pub added-queues : (fs gs : List Frame) (k : Kind) (o : Owner) (size : ℕ) (name : List ℕ) (q : Pool) → is_queue k ≡ false → is_entry k ≡ false → q.rows ≡ (add p k o size name).rows → q.queues ≡ p.queues
      → ((y : Obj) → drains y fs ≡ true → drains y gs ≡ true) → QueuesHold fs p → QueuesHold gs q
  added-queues fs gs k o size name q no_queue no_entry rows queues more h = record {
    queues = λ y. ap (λ qs. has_queue qs y) queues ∙ h.queues y ∙ at-new k o size name (λ s. is_queue s.kind) y no_queue ∙ sym (ap (λ rs. is_queue_row (row_of rs y)) rows);
    entries = λ y. ap (λ qs. is_entered qs y) queues ∙ h.entries y ∙ at-new k o size name (λ s. is_entry s.kind && not (is_dying_mark s.mark)) y (rw no_entry refl) ∙ sym (ap (λ rs. is_live_entry (row_of rs y)) rows);
    waiting = subst (λ (qs : Queues). AllQueued q qs.entries) (sym queues) (waiting-kept p q p.queues.entries (waits-behind k o size name q rows) h.waiting);
    idle = λ y t. rw rows (more-idle fs gs k o size name more h y (ap (λ qs. has_entries qs y) (sym queues) ∙ t));
  }

  pub new-queue-holds : (fs gs : List Frame) (o : Owner) (name : List ℕ) → ((y : Obj) → drains y fs ≡ true → drains y gs ≡ true) → QueuesHold fs p → QueuesHold gs (add_queue p o name)
  new-queue-holds fs gs o name more h = record {
    queues = queues;
    entries = λ y. h.entries y ∙ at-new kind.Queue o 0 name (λ s. is_entry s.kind && not (is_dying_mark s.mark)) y refl;
    waiting = waiting-kept p (add_queue p o name) p.queues.entries (waits-behind kind.Queue o 0 name (add_queue p o name) refl) h.waiting;
    idle = more-idle fs gs kind.Queue o 0 name more h;
  }
    where
      queues : (y : Obj) → has_queue (add_queue p o name).queues y ≡ is_queue_row (row_of (add_queue p o name).rows y)
      queues y = by_test (same n y)
          (λ t. let is : same y n ≡ true = same-equal y n (sym (same-true n y t)) in rw t (ap is_some (with-same p.queues.running n y true is)))
          (λ t. let ne : same y n ≡ false = same-false y n (λ e. let u = same-equal n y (sym e) in let bad : true ≡ false = sym u ∙ t in cc) in rw t (ap is_some (with-other p.queues.running n y true ne) ∙ h.queues y))

  -- the queue is one with which nothing goes on
  pub new-entry-holds : (fs gs : List Frame) (q x : Obj) (trigger : Handler) → is_request_row (row_of p.rows x) ≡ true → is_queue_row (row_of p.rows q) ≡ true → phases (row_of p.rows q) ≡ []
      → ((y : Obj) → drains y fs ≡ true → drains y gs ≡ true) → QueuesHold fs p → QueuesHold gs (add_entry p q x trigger)
  new-entry-holds fs gs q x trigger request queue quiet more h = record {
    queues = λ y. h.queues y ∙ at-new kind.Entry (Of x) 0 (codes "entry") (λ s. is_queue s.kind) y refl;
    entries = entries;
    waiting = waiting-with p' p.queues.entries n e one (waiting-kept p p' p.queues.entries (waits-behind kind.Entry (Of x) 0 (codes "entry") p' refl) h.waiting);
    idle = idle;
  }
    where
      e : QueueEntry
      e = new_entry q x trigger

      p' : Pool
      p' = add_entry p q x trigger

      one : IsQueued p' n e
      one =
          let self : same n n ≡ true = same-equal n n refl in
          record {
            entry = rw self (refl, refl, refl, refl);
            request = rw (behind kind.Entry (Of x) 0 (codes "entry") x (passing (λ s. is_request s.kind) x request)) request;
            queue = rw (behind kind.Entry (Of x) 0 (codes "entry") q (passing (λ s. is_queue s.kind) q queue)) queue;
          }

      entries : (y : Obj) → is_entered p'.queues y ≡ is_live_entry (row_of p'.rows y)
      entries y = by_test (same n y)
          (λ t. let is : same y n ≡ true = same-equal y n (sym (same-true n y t)) in rw t (ap is_some (with-same p.queues.entries n y e is)))
          (λ t. let ne : same y n ≡ false = same-false y n (λ k. let u = same-equal n y (sym k) in let bad : true ≡ false = sym u ∙ t in cc) in rw t (ap is_some (with-other p.queues.entries n y e ne) ∙ h.entries y))

      idle : (y : Obj) → has_entries p'.queues y ≡ true → (phases (row_of p'.rows y) ≡ []) ⊎ (drains y gs ≡ true)
      idle y t = by_test (same q y)
          (λ u. inl (idle-behind kind.Entry (Of x) 0 (codes "entry") y (subst (λ (z : Obj). phases (row_of p.rows z) ≡ []) (same-true q y u) quiet)))
          (λ u. more-idle fs gs kind.Entry (Of x) 0 (codes "entry") more h y (has-with p.queues.entries n.0 e y u t))

-- ---- queues themselves

-- a queue runs from now on, or it doesn't
pub ran-queues : (fs gs : List Frame) (p : Pool) (q : Obj) (b : Bool) → ((y : Obj) → drains y fs ≡ true → drains y gs ≡ true) → QueuesHold fs p → QueuesHold gs (run_queue p q b)
ran-queues fs gs p q b more h = by_test (has_queue p.queues q)
    (λ t. rw t (record { queues = there t; entries = h.entries; waiting = waiting-kept p _ p.queues.entries (λ x e w. record { entry = w.entry; request = w.request; queue = w.queue }) h.waiting; idle = idle }))
    (λ t. rw t (record { queues = h.queues; entries = h.entries; waiting = waiting-kept p _ p.queues.entries (λ x e w. record { entry = w.entry; request = w.request; queue = w.queue }) h.waiting; idle = idle }))
  where
    there : has_queue p.queues q ≡ true → (y : Obj) → is_some (find nat_cmp y.0 (put nat_cmp q.0 b p.queues.running)) ≡ is_queue_row (row_of p.rows y)
    there t y = by_test (same y q)
        (λ u. let is : y ≡ q = same-true y q u in ap is_some (with-same p.queues.running q y b u) ∙ sym (sym (h.queues y) ∙ subst (λ (z : Obj). has_queue p.queues z ≡ true) (sym is) t))
        (λ u. ap is_some (with-other p.queues.running q y b u) ∙ h.queues y)

    idle : (y : Obj) → has_entries p.queues y ≡ true → (phases (row_of p.rows y) ≡ []) ⊎ (drains y gs ≡ true)
    idle y t = elim (h.idle y t) [
      | inl quiet ↦ inl quiet
      | inr d ↦ inr (more y d)
    ]

-- the trigger of its first entry begins
pub triggered-queues : (fs gs : List Frame) (p : Pool) (q : Obj) (e : Head) → head_in p.queues.entries q ≡ Some e → ((y : Obj) → drains y fs ≡ true → drains y gs ≡ true) → QueuesHold fs p → QueuesHold gs (trigger p e)
triggered-queues fs gs p q e is more h = record {
  queues = h.queues;
  entries = entries;
  waiting = waiting-with (trigger p e) p.queues.entries e.object (triggered_entry e.entry) (record { entry = w.entry; request = w.request; queue = w.queue })
      (waiting-kept p (trigger p e) p.queues.entries (λ x s i. record { entry = i.entry; request = i.request; queue = i.queue }) h.waiting);
  idle = idle;
}
  where
    w : IsQueued p e.object e.entry
    w = head-waiting p p.queues.entries q e h.waiting is

    entries : (y : Obj) → is_entered (trigger p e).queues y ≡ is_live_entry (row_of p.rows y)
    entries y = by_test (same y e.object)
        (λ t. let at : y ≡ e.object = same-true y e.object t in ap is_some (with-same p.queues.entries e.object y (triggered_entry e.entry) t) ∙ sym (subst (λ (z : Obj). is_live_entry (row_of p.rows z) ≡ true) (sym at) (live-entry e.entry.request (row_of p.rows e.object) w.entry)))
        (λ t. ap is_some (with-other p.queues.entries e.object y (triggered_entry e.entry) t) ∙ h.entries y)

    had : (y : Obj) → same e.entry.queue y ≡ true → has_entries p.queues y ≡ true
    had y t =
        let at : q ≡ y = sym (same-true e.entry.queue q (head-queue p.queues.entries q e is)) ∙ same-true e.entry.queue y t in
        subst (λ (z : Obj). has_entries p.queues z ≡ true) at (ap is_some is)

    idle : (y : Obj) → has_entries (trigger p e).queues y ≡ true → (phases (row_of p.rows y) ≡ []) ⊎ (drains y gs ≡ true)
    idle y t = elim (h.idle y (by_test (same e.entry.queue y) (λ u. had y u) (λ u. has-with p.queues.entries e.object.0 (triggered_entry e.entry) y u t))) [
      | inl quiet ↦ inl quiet
      | inr d ↦ inr (more y d)
    ]
