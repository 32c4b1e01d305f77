-- What each change of the pool leaves of what holds of requests.
use Rattle.std.proofs.Common.{◌≡◌, ◌≢◌, ◌⊎◌, ℕ, ◌+◌, ◌<◌, List, [], ◌∷◌, Option, Some, None, true, false, refl, sym, ◌∙◌, ap, subst, inl, inr, arith}
use Rattle.std.specs.Prelude.{is_some, codes}
use Rattle.tree_specs.specs.declared.object.Obj.{Obj}
use Rattle.tree_specs.specs.declared.object.Owner.{Owner}
use Rattle.tree_specs.specs.declared.object.Owner.TheVariants.{Of}
use Rattle.tree_specs.specs.declared.kind.Kind.{Kind}
use Rattle.tree_specs.specs.declared.kind.Kind.TheVariants as kind
use Rattle.tree_specs.specs.declared.row.Row.{Row}
use Rattle.tree_specs.specs.declared.request.Note.{Note}
use Rattle.tree_specs.specs.declared.request.State.{State}
use Rattle.tree_specs.specs.declared.request.State.TheVariants.{Received}
use Rattle.tree_specs.specs.declared.row.Mark.TheVariants.{Quiet}
use Rattle.tree_specs.specs.Words.Objects.{same}
use Rattle.tree_specs.specs.Tree.Pool.{Pool, row_of, changed, without, add, note, add_request, remove, place, set_mark, marked_row, arm, unschedule, renote, finish, receive}
use Rattle.tree_specs.specs.Tree.Forest.{Distinct}
use Rattle.tree_specs.specs.Events.Pending.{is_armed}
use Rattle.tree_specs.specs.Events.Requests.{note_of, is_noted, is_unreceived, new_note, in_state, is_in_progress}
use Rattle.tree_specs.specs.Calls.Refusals as refusals
use Rattle.tree_specs.specs.Calls.Refusals.{is_request, is_request_row}
use Rattle.tree_specs.specs.Invariants.Sound.{ValidAt, MayBePlaced, phases}
use Rattle.tree_specs.specs.Invariants.Noted.{IsInProgress, NotesHold}
use Rattle.tree_specs.proofs.Tree.Numbered.{by_test, same-true, same-equal, same-false, same_or_not}
use Rattle.tree_specs.proofs.Tree.Rows.{row_of-changed-other, row_of-changed-same, row_of-changed-none, row_of-without-other, row_of-without-same, row_of-placed-other, row_of-placed-same}
use Rattle.tree_specs.proofs.Events.PendingLaws.{disarmed-other, armed-either}
use Rattle.tree_specs.proofs.Events.NoteLaws.{noted-same, noted-other, forgotten-same, forgotten-other, renoted-same, renoted-none, renoted-other, renoted-lighter}

-- the same requests, of which none has an end time that had none, and with none of which something goes on now
pub holds : {e : Option Obj} (p q : Pool) → NotesHold e p → ((y : Obj) → is_request_row (row_of q.rows y) ≡ is_request_row (row_of p.rows y)) → q.requests ≡ p.requests
    → ((y : Obj) → is_armed q.times y ≡ true → is_armed p.times y ≡ true)
    → ((y : Obj) → is_unreceived (note_of p.requests y) ≡ true → (phases (row_of p.rows y) ≡ []) ⊎ (e ≡ Some y) → (phases (row_of q.rows y) ≡ []) ⊎ (e ≡ Some y)) → NotesHold e q
holds {e = e} p q h rows notes times calm = record {
  notes = λ y. ap (λ ns. is_noted ns y) notes ∙ h.notes y ∙ sym (rows y);
  timed = λ y t. rw notes (h.timed y (times y t));
  ready = λ y t. (let t' : is_unreceived (note_of p.requests y) ≡ true = rw notes at t in calm y t' (h.ready y t'));
}

-- the same rows, of which others wait
pub same-holds : {e : Option Obj} (p q : Pool) → NotesHold e p → q.rows ≡ p.rows → q.requests ≡ p.requests → ((y : Obj) → is_armed q.times y ≡ true → is_armed p.times y ≡ true) → NotesHold e q
same-holds {e = e} p q h rows notes times =
    holds p q h (λ y. ap (λ rs. is_request_row (row_of rs y)) rows) notes times (λ y t r. subst (λ (rs : List Row). (phases (row_of rs y) ≡ []) ⊎ (e ≡ Some y)) (sym rows) r)

-- nothing goes on with a request that is still to be received
pub settled : (p : Pool) (x : Obj) → NotesHold None p → is_unreceived (note_of p.requests x) ≡ true → phases (row_of p.rows x) ≡ []
settled p x h t = elim (h.ready x t) [
  | inl e ↦ e
  | inr e ↦ cc
]

-- nothing is to be received where no note is kept
pub unnoted-unreceived : (p : Pool) (x : Obj) → is_noted p.requests x ≡ false → is_unreceived (note_of p.requests x) ≡ false
unnoted-unreceived p x e = each (note_of p.requests x) refl
  where
    each : (o : Option Note) → note_of p.requests x ≡ o → is_unreceived (note_of p.requests x) ≡ false
    each None n = rw n refl
    each (Some m) n = let bad : true ≡ false = rw n at e in cc

-- what isn't received next may be so
pub excepted : (p : Pool) (x : Obj) → NotesHold None p → NotesHold (Some x) p
excepted p x h = record { notes = h.notes; timed = h.timed; ready = λ y t. inl (settled p y h t) }

-- nor is what was received already
pub unexcepted : (p : Pool) (x : Obj) → NotesHold (Some x) p → is_unreceived (note_of p.requests x) ≡ false → NotesHold None p
unexcepted p x h f = record {
  notes = h.notes;
  timed = h.timed;
  ready = λ y t. elim (h.ready y t) [
    | inl e ↦ inl e
    | inr e ↦ let is : x ≡ y = cc in let bad : is_unreceived (note_of p.requests y) ≡ false = subst (λ (z : Obj). is_unreceived (note_of p.requests z) ≡ false) is f in let worse : true ≡ false = sym t ∙ bad in cc
  ];
}

-- ---- rows

changed-request : (g : Row → Row) (rs : List Row) (x y : Obj) → ((r : Row) → (g r).serial ≡ r.serial) → ((r : Row) → (g r).kind ≡ r.kind) → is_request_row (row_of (changed g rs x) y) ≡ is_request_row (row_of rs y)
changed-request g [] x y k l = refl
changed-request g (s ∷ rs) x y k l = by_test (same s.serial x)
    (λ t. by_test (same s.serial y) (λ u. rw (t, k s, u, l s) refl) (λ u. rw (t, k s, u) refl))
    (λ t. by_test (same s.serial y) (λ u. rw (t, u) refl) (λ u. let ih = changed-request g rs x y k l in rw (t, u) ih))

-- a row is changed, and fewer objects have a time
pub changed-holds : {e : Option Obj} (g : Row → Row) (p q : Pool) (x : Obj) → NotesHold e p → ((r : Row) → (g r).serial ≡ r.serial) → ((r : Row) → (g r).kind ≡ r.kind) → q.rows ≡ changed g p.rows x → q.requests ≡ p.requests
    → ((y : Obj) → is_armed q.times y ≡ true → is_armed p.times y ≡ true)
    → (is_unreceived (note_of p.requests x) ≡ true → (phases (row_of p.rows x) ≡ []) ⊎ (e ≡ Some x) → (phases (row_of (changed g p.rows x) x) ≡ []) ⊎ (e ≡ Some x)) → NotesHold e q
changed-holds {e = e} g p q x h serial kind rows notes times here =
    holds p q h (λ y. ap (λ rs. is_request_row (row_of rs y)) rows ∙ changed-request g p.rows x y serial kind) notes times
    (λ y t r. subst (λ (rs : List Row). (phases (row_of rs y) ≡ []) ⊎ (e ≡ Some y)) (sym rows) (elim (same_or_not x y) [
      | inl is ↦ subst (λ (z : Obj). is_unreceived (note_of p.requests z) ≡ true → (phases (row_of p.rows z) ≡ []) ⊎ (e ≡ Some z) → (phases (row_of (changed g p.rows x) z) ≡ []) ⊎ (e ≡ Some z)) is here t r
      | inr ne ↦ rw (row_of-changed-other g p.rows x y serial ne) r
    ]))

-- a row that keeps its mark
pub unmarked-holds : {e : Option Obj} (g : Row → Row) (p : Pool) (x : Obj) → ((r : Row) → (g r).serial ≡ r.serial) → ((r : Row) → (g r).kind ≡ r.kind) → ((r : Row) → (g r).mark ≡ r.mark) → NotesHold e p
    → NotesHold e (record p { rows = changed g p.rows x })
unmarked-holds {e = e} g p x serial kind mark h = changed-holds g p (record p { rows = changed g p.rows x }) x h serial kind refl refl (λ y t. t) (λ t r. rw (same-phases (row_of p.rows x) refl) r)
  where
    same-phases : (o : Option Row) → row_of p.rows x ≡ o → phases (row_of (changed g p.rows x) x) ≡ phases (row_of p.rows x)
    same-phases None e = ap phases (row_of-changed-none g p.rows x x serial e) ∙ sym (ap phases e)
    same-phases (Some r) e = ap phases (row_of-changed-same g p.rows x r serial e) ∙ (let a = mark r in let b = kind r in rw (a, b) refl) ∙ sym (ap phases e)

-- nothing goes on with an object any more
pub quiet-holds : {e : Option Obj} (p : Pool) (x : Obj) → NotesHold e p → NotesHold e (set_mark p x Quiet)
quiet-holds {e = e} p x h = changed-holds (marked_row Quiet) p (set_mark p x Quiet) x h (λ r. refl) (λ r. refl) refl refl (λ y t. t) (λ t r. inl (none (row_of p.rows x) refl))
  where
    none : (o : Option Row) → row_of p.rows x ≡ o → phases (row_of (changed (marked_row Quiet) p.rows x) x) ≡ []
    none None e = ap phases (row_of-changed-none (marked_row Quiet) p.rows x x (λ r. refl) e)
    none (Some r) e = ap phases (row_of-changed-same (marked_row Quiet) p.rows x r (λ r. refl) e)

pub placed-holds : {e : Option Obj} (p : Pool) (o : Owner) (x : Obj) → MayBePlaced p o x → NotesHold e p → NotesHold e (place p o x)
placed-holds {e = e} p o x may h = holds p (place p o x) h rows refl (λ y t. t) (λ y t r. rw (marks y) r)
  where
    at-x : (P : Option Row → Option Row → Type 0) → P (Some (record may.row { owner = Some o })) (Some may.row) → P (row_of (place p o x).rows x) (row_of p.rows x)
    at-x P here = subst (λ (w : Option Row). P w (row_of p.rows x)) (sym (row_of-placed-same p o x may.row may.is)) (subst (λ (w : Option Row). P (Some (record may.row { owner = Some o })) w) (sym may.is) here)

    rows : (y : Obj) → is_request_row (row_of (place p o x).rows y) ≡ is_request_row (row_of p.rows y)
    rows y = elim (same_or_not x y) [
      | inl e ↦ subst (λ (z : Obj). is_request_row (row_of (place p o x).rows z) ≡ is_request_row (row_of p.rows z)) e (at-x (λ a b. is_request_row a ≡ is_request_row b) refl)
      | inr ne ↦ ap is_request_row (row_of-placed-other p o x y may.row may.is ne)
    ]

    marks : (y : Obj) → phases (row_of (place p o x).rows y) ≡ phases (row_of p.rows y)
    marks y = elim (same_or_not x y) [
      | inl e ↦ subst (λ (z : Obj). phases (row_of (place p o x).rows z) ≡ phases (row_of p.rows z)) e (at-x (λ a b. phases a ≡ phases b) refl)
      | inr ne ↦ ap phases (row_of-placed-other p o x y may.row may.is ne)
    ]

pub removed-holds : {e : Option Obj} (p : Pool) (x : Obj) → Distinct p.rows → NotesHold e p → NotesHold e (remove p x)
removed-holds {e = e} p x d h = record { notes = notes; timed = timed; ready = ready }
  where
    notes : (y : Obj) → is_noted (remove p x).requests y ≡ is_request_row (row_of (without p.rows x) y)
    notes y = elim (same_or_not x y) [
      | inl e ↦ subst (λ (z : Obj). is_noted (remove p x).requests z ≡ is_request_row (row_of (without p.rows x) z)) e
          (ap is_some (forgotten-same p.requests x) ∙ sym (ap is_request_row (row_of-without-same p.rows x d)))
      | inr ne ↦ ap is_some (forgotten-other p.requests x y ne) ∙ h.notes y ∙ sym (ap is_request_row (row_of-without-other p.rows x y ne))
    ]

    timed : (y : Obj) → is_armed p.times y ≡ true → IsInProgress (remove p x) y
    timed y t = elim (same_or_not x y) [
      | inl e ↦ subst (λ (z : Obj). IsInProgress (remove p x) z) e (rw (forgotten-same p.requests x) refl)
      | inr ne ↦ rw (forgotten-other p.requests x y ne) (h.timed y t)
    ]

    ready : (y : Obj) → is_unreceived (note_of (remove p x).requests y) ≡ true → (phases (row_of (without p.rows x) y) ≡ []) ⊎ (e ≡ Some y)
    ready y t = elim (same_or_not x y) [
      | inl is ↦ inl (subst (λ (z : Obj). phases (row_of (without p.rows x) z) ≡ []) is (ap phases (row_of-without-same p.rows x d)))
      | inr ne ↦ let t' : is_unreceived (note_of p.requests y) ≡ true = rw (forgotten-other p.requests x y ne) at t in rw (row_of-without-other p.rows x y ne) (h.ready y t')
    ]

pub added-holds : {e : Option Obj} (p : Pool) (k : Kind) (o : Owner) (size : ℕ) (name : List ℕ) → is_request k ≡ false → row_of p.rows (record { 0 = p.next }) ≡ None → NotesHold e p → NotesHold e (add p k o size name)
added-holds {e = e} p k o size name other none h = holds p (add p k o size name) h rows refl (λ y t. t) marks
  where
    rows : (y : Obj) → is_request_row (row_of (add p k o size name).rows y) ≡ is_request_row (row_of p.rows y)
    rows y = by_test (same (record { 0 = p.next }) y)
        (λ t. let e : record { 0 = p.next } ≡ y = same-true (record { 0 = p.next }) y t in rw t (other ∙ sym (ap is_request_row (ap (row_of p.rows) (sym e) ∙ none))))
        (λ t. rw t refl)

    marks : (y : Obj) → is_unreceived (note_of p.requests y) ≡ true → (phases (row_of p.rows y) ≡ []) ⊎ (e ≡ Some y) → (phases (row_of (add p k o size name).rows y) ≡ []) ⊎ (e ≡ Some y)
    marks y u r = by_test (same (record { 0 = p.next }) y) (λ t. rw t (inl refl)) (λ t. rw t r)

-- a new request, with its object
pub requested-holds : {e : Option Obj} (p : Pool) (o : Owner) (size : ℕ) (name : List ℕ) → ((x : Obj) → ValidAt p.next (row_of p.rows x) x) → NotesHold e p → NotesHold e (add_request p o size name)
requested-holds {e = e} p o size name valid h = added-holds b kind.Plain (Of x) size name refl later here
  where
    x : Obj
    x = record { 0 = p.next }

    n : Note
    n = new_note (record { 0 = p.next + 1 })

    b : Pool
    b = note (add p kind.Request o 0 (codes "req")) x n

    apart : same x (record { 0 = p.next + 1 }) ≡ false
    apart = same-false x (record { 0 = p.next + 1 }) (λ e. let e' : p.next ≡ p.next + 1 = ap (λ (z : Obj). z.0) e in absurd (omega arith))

    later : row_of b.rows (record { 0 = p.next + 1 }) ≡ None
    later = rw apart (each (row_of p.rows (record { 0 = p.next + 1 })) (valid (record { 0 = p.next + 1 })))
      where
        each : (q : Option Row) → ValidAt p.next q (record { 0 = p.next + 1 }) → q ≡ None
        each None v = refl
        each (Some r) v = let l : p.next + 1 < p.next = v.1 in absurd (omega arith)

    other : (y : Obj) → same x y ≡ false → x ≢ y
    other y t e = let u : same x y ≡ true = same-equal x y e in let bad : true ≡ false = sym u ∙ t in cc

    here : NotesHold e b
    here = record {
      notes = λ y. by_test (same x y)
          (λ t. let e = same-true x y t in rw t (ap (λ z. is_noted b.requests z) (sym e) ∙ ap is_some (noted-same p.requests x n)))
          (λ t. rw t (ap is_some (noted-other p.requests x y n (other y t)) ∙ h.notes y));
      timed = λ y t. elim (same_or_not x y) [
        | inl e ↦ subst (λ (z : Obj). IsInProgress b z) e (rw (noted-same p.requests x n) refl)
        | inr ne ↦ rw (noted-other p.requests x y n ne) (h.timed y t)
      ];
      ready = λ y u. by_test (same x y)
          (λ t. rw t (inl refl))
          (λ t. let u' : is_unreceived (note_of p.requests y) ≡ true = rw (noted-other p.requests x y n (other y t)) at u in rw t (h.ready y u'));
    }

-- ---- times and notes

pub armed-holds : {e : Option Obj} (p : Pool) (x : Obj) (time number : ℕ) (c : Obj) → IsInProgress p x → NotesHold e p → NotesHold e (arm p x time number c)
armed-holds p x time number c going h = record {
  notes = h.notes;
  timed = λ y t. elim (armed-either p.times x time number c y t) [
    | inl l ↦ h.timed y l
    | inr e ↦ subst (λ (z : Obj). IsInProgress p z) e going
  ];
  ready = h.ready;
}

renoted-noted : (g : Note → Note) (p : Pool) (x y : Obj) → is_noted (renote p x g).requests y ≡ is_noted p.requests y
renoted-noted g p x y = elim (same_or_not x y) [
  | inl e ↦ subst (λ (z : Obj). is_noted (renote p x g).requests z ≡ is_noted p.requests z) e (each (note_of p.requests x) refl)
  | inr ne ↦ ap is_some (renoted-other g p.requests x y ne)
]
  where
    each : (o : Option Note) → note_of p.requests x ≡ o → is_noted (renote p x g).requests x ≡ is_noted p.requests x
    each None e = ap is_some (renoted-none g p.requests x e) ∙ sym (ap is_some e)
    each (Some n) e = ap is_some (renoted-same g p.requests x n e) ∙ sym (ap is_some e)

-- what is kept of a request is changed, and not its state
pub renoted-holds : {e : Option Obj} (g : Note → Note) (p : Pool) (x : Obj) → ((n : Note) → (g n).state ≡ n.state) → NotesHold e p → NotesHold e (renote p x g)
renoted-holds g p x calm h = record {
  notes = λ y. renoted-noted g p x y ∙ h.notes y;
  timed = λ y t. elim (same_or_not x y) [
    | inl e ↦ subst (λ (z : Obj). IsInProgress (renote p x g) z) e (each (note_of p.requests x) refl (subst (λ (z : Obj). IsInProgress p z) (sym e) (h.timed y t)))
    | inr ne ↦ rw (renoted-other g p.requests x y ne) (h.timed y t)
  ];
  ready = λ y u. h.ready y (renoted-lighter g p.requests x (λ n q t. rw (calm n) at t) y u);
}
  where
    each : (o : Option Note) → note_of p.requests x ≡ o → IsInProgress p x → IsInProgress (renote p x g) x
    each None e i = rw (renoted-none g p.requests x e) refl
    each (Some n) e i = let i' : refusals.in_state x is_in_progress (Some n) ≡ [] = rw e at i in rw (renoted-same g p.requests x n e, calm n) i'

-- it goes to a state, and has no end time any more; where it was received it stays so
pub finished-holds : {e : Option Obj} (p : Pool) (x : Obj) (s : State) → ((n : Note) → note_of p.requests x ≡ Some n → is_unreceived (Some (in_state s n)) ≡ true → is_unreceived (Some n) ≡ true) → NotesHold e p
    → NotesHold e (finish p x s)
finished-holds p x s calm h = record {
  notes = λ y. renoted-noted (in_state s) p x y ∙ h.notes y;
  timed = λ y t. (let o = disarmed-other p.times x y t in rw (renoted-other (in_state s) p.requests x y o.1) (h.timed y o.0));
  ready = λ y u. h.ready y (renoted-lighter (in_state s) p.requests x calm y u);
}

-- the request that was to be received is received
pub received-holds : (p : Pool) (x : Obj) → NotesHold (Some x) p → NotesHold None (receive p x)
received-holds p x h =
    let r = finished-holds (unschedule p x) x Received (λ n q t. cc) (same-holds p (unschedule p x) h refl refl (λ y t. t)) in
    record { notes = r.notes; timed = r.timed; ready = λ y u. ready y u (r.ready y u) }
  where
    gone : (o : Option Note) → note_of p.requests x ≡ o → is_unreceived (note_of (receive p x).requests x) ≡ false
    gone None e = rw (renoted-none (in_state Received) p.requests x e) refl
    gone (Some n) e = rw (renoted-same (in_state Received) p.requests x n e) refl

    ready : (y : Obj) → is_unreceived (note_of (receive p x).requests y) ≡ true → (phases (row_of p.rows y) ≡ []) ⊎ (Some x ≡ Some y) → (phases (row_of p.rows y) ≡ []) ⊎ (None ≡ Some y)
    ready y u r = elim r [
      | inl e ↦ inl e
      | inr e ↦
          let is : x ≡ y = cc in
          let bad : is_unreceived (note_of (receive p x).requests y) ≡ false = subst (λ (z : Obj). is_unreceived (note_of (receive p x).requests z) ≡ false) is (gone (note_of p.requests x) refl) in
          let worse : true ≡ false = sym u ∙ bad in cc
    ]
