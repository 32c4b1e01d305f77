-- What a change asks for, and what it leaves so.
use Rattle.std.proofs.Common.{inr, [], ◌∙◌, ◌++◌, ℕ, ◌≡◌, ◌≤◌, ◌+◌, ◌*◌, List, length, Some, None, true, false, refl, ap, arith, Option, subst, sym}
use Rattle.std.specs.Prelude.{is_some, codes, not}
use Rattle.tree_specs.specs.declared.object.Obj.{Obj}
use Rattle.tree_specs.specs.declared.object.Owner.{Owner}
use Rattle.tree_specs.specs.declared.object.Owner.TheVariants.{Of}
use Rattle.tree_specs.specs.declared.kind.Kind.{Kind}
use Rattle.tree_specs.specs.declared.kind.Kind.TheVariants as kind
use Rattle.tree_specs.specs.Words.Objects.{first_context, same}
use Rattle.tree_specs.specs.declared.row.Row.{Row}
use Rattle.tree_specs.specs.declared.row.Mark.{Mark}
use Rattle.tree_specs.specs.declared.row.Mark.TheVariants as mark
use Rattle.tree_specs.specs.declared.watch.Watch.{Watch}
use Rattle.tree_specs.specs.declared.frame.Frame.{Frame}
use Rattle.tree_specs.specs.Tree.Pool.{set_mark, is_context_row, is_usable_row, enter, marked_row, Pool, row_of, is_owner, new_row, add, note, add_request, add_queue, add_entry}
use Rattle.tree_specs.specs.Tree.Targets.{target_of, is_reference, is_context, is_usable_mark}
use Rattle.tree_specs.specs.Tree.Inside.{total}
use Rattle.tree_specs.specs.Invariants.Measure.{mark_weight, weight}
use Rattle.tree_specs.specs.Invariants.Consistent.{mark_deposit, deposit}
use Rattle.tree_specs.specs.Calls.Refusals.{is_doomed_mark, is_referable, is_open, is_request, is_request_row, is_queue_row}
use Rattle.tree_specs.specs.declared.moment.What.TheVariants as what
use Rattle.tree_specs.specs.Events.Handlers.{handler_of}
use Rattle.tree_specs.specs.Events.Rotation.{is_watched}
use Rattle.tree_specs.specs.Invariants.Awaiting.{MayCome, waits_as_row, is_event_row, IsHandled}
use Rattle.tree_specs.specs.Calls.Plans.{Enter, Change, changed_by}
use Rattle.tree_specs.specs.Calls.Plans.Change.{Nothing, Edit, Add, Place, Handle, Schedule, Arm, Watches, Rewatch, Close, TakeNumber, AddRequest, Renotes, AddQueue, AddEntry, LooksAt, Then}
use Rattle.tree_specs.specs.Calls.Passed.{IsUsable, First, Stays}
use Rattle.tree_specs.specs.Invariants.Sound.{phase_of, phases, claims, IsLive, IsReferable, MayBePlaced, Rests, Sound, claim}
use Rattle.tree_specs.proofs.Tree.Numbered.{by_test, same-equal}
use Rattle.tree_specs.proofs.Tree.Rows.{row_of-changed-same, total-placed}
use Rattle.tree_specs.proofs.Tree.Rooted.{KeepsPlace}
use Rattle.tree_specs.proofs.Tree.Referring.{unreferred}
use Rattle.tree_specs.proofs.Invariants.Changes.{changed-sound, live-owned, shape-of, marks-place, goes_on, waiting-sound, numbered-sound, nobody, unmarked-sound, placed-sound, new-sound}
use Rattle.tree_specs.proofs.Turns.FallingFrees.{length-placed}
use Rattle.tree_specs.proofs.Turns.Lowering.{total-kept, length-changed}
use Rattle.tree_specs.proofs.Promises.Later.{later-marked, Later, later-still, later-same, later-changed, later-placed, later-added, later-waiting, later-noted, states-renoted, states-noted}
use Rattle.tree_specs.specs.declared.moment.What.{What}
use Rattle.tree_specs.specs.declared.request.Note.{Note}
use Rattle.tree_specs.specs.Events.Requests.{Notes as RequestNotes, renoted, new_note}
use Rattle.tree_specs.specs.Machine.Profiles.{Phase}
use Rattle.tree_specs.proofs.Events.NoteLaws.{note_weight-most, renoted-lighter, total-lighter, total-unowned}

-- ---- what a change asks for

-- an event or a request that comes as this; an event has a handler
pub record MayWait (p : Pool) (w : What) (x : Obj) : Type 0 where
  pub comes : waits_as_row w (row_of p.rows x) ≡ true
  pub ready : IsHandled (row_of p.rows x) (handler_of p.handlers x)

-- an object of which something changes that is nobody else's
pub record MayBeEdited (p : Pool) (x : Obj) (g : Row → Row) : Type 0 where
  pub row : Row
  pub is : row_of p.rows x ≡ Some row
  pub object : target_of row.kind ≡ None
  pub place : KeepsPlace g
  pub mark : (r : Row) → (g r).mark ≡ r.mark

pub record MayBeAdded (p : Pool) (kind : Kind) (o : Owner) : Type 0 where
  pub there : is_owner p.rows o ≡ true
  pub target : (t : Obj) → target_of kind ≡ Some t → IsReferable (row_of p.rows t)

-- an event that watches a descriptor
pub record MayWatch (p : Pool) (x : Obj) (fd : ℕ) : Type 0 where
  pub comes : MayCome what.Descriptor (row_of p.rows x)
  pub ready : is_some (handler_of p.handlers x) ≡ true
  pub free : is_watched p.ring fd ≡ false
  pub open_one : is_open p fd ≡ true

-- how an event watches is changed, but not what it watches, nor in which context
pub record KeepsWatched (g : Watch → Watch) : Type 0 where
  pub object : (w : Watch) → (g w).object ≡ w.object
  pub fd : (w : Watch) → (g w).fd ≡ w.fd
  pub context : (w : Watch) → (g w).context ≡ w.context

abbrev pub MayDo : Pool → Change → Type 0
MayDo p (Edit x g) = MayBeEdited p x g
MayDo p (Add kind o size name) = MayBeAdded p kind o
MayDo p (Place o x) = MayBePlaced p o x
MayDo p (Handle x handler) = is_event_row (row_of p.rows x) ≡ true
MayDo p (Schedule x c) = MayWait p what.Immediate x
MayDo p (Arm x time number c) = MayWait p what.Timer x
MayDo p (AddQueue o name) = is_owner p.rows o ≡ true
-- the queue and the request are there, and the next number is nobody's
MayDo p (AddEntry q x trigger) = (is_request_row (row_of p.rows x) ≡ true) × MayWait p what.Immediate q × (is_queue_row (row_of p.rows q) ≡ true) × (row_of p.rows (record { 0 = p.next }) ≡ None)
MayDo p (LooksAt q) = MayWait p what.Immediate q
MayDo p (Watches x fd flags c) = MayWatch p x fd
MayDo p (Rewatch x g) = KeepsWatched g
MayDo p (Enter c) = IsUsable p c
MayDo p (Close fd) = is_watched p.ring fd ≡ false
-- the next number is nobody's
MayDo p (AddRequest o size name) = (is_owner p.rows o ≡ true) × (row_of p.rows (record { 0 = p.next }) ≡ None)
MayDo p (Renotes x g) = (n : Note) → (g n).state ≡ n.state
MayDo p (Then first second) = MayDo p first × MayDo (changed_by first p) second
MayDo p change = Unit {0}

-- how many rows it adds
abbrev pub added : Change → ℕ
added (Add kind o size name) = 1
added (AddRequest o size name) = 2
added (AddQueue o name) = 1
added (AddEntry q x trigger) = 1
added (Then first second) = added first + added second
added change = 0

-- what it adds to what the rows weigh
abbrev pub heavier : Change → ℕ
heavier change = 3 * added change

-- ---- what a change leaves so

-- the rows weigh so much more at most, and at most so many are there more; those that are there bear as much; what was past
-- stays so
pub record Follows (p q : Pool) (heavy more : ℕ) : Type 0 where
  pub weight : total (weight q.requests) q.rows ≤ total (weight p.requests) p.rows + heavy
  pub number : length q.rows ≤ length p.rows + more
  pub deposit : total deposit p.rows ≤ total deposit q.rows
  pub later : Later p q

-- the same rows, of which others wait
pub waits : (p q : Pool) → q.rows ≡ p.rows → q.next ≡ p.next → q.requests ≡ p.requests → Follows p q 0 0
waits p q rows next notes = record { weight = rw (rows, notes) (omega arith); number = rw rows (omega arith); deposit = rw rows (omega arith); later = later-waiting p q rows next notes }

edited-weight : (ns : RequestNotes) (g : Row → Row) (r : Row) → (g r).mark ≡ r.mark → (g r).serial ≡ r.serial → weight ns (g r) ≡ weight ns r
edited-weight ns g r mark serial = rw (mark, serial) refl

-- a new request, with its object
requested : (p : Pool) (o : Owner) (size : ℕ) (name : List ℕ) → row_of p.rows (record { 0 = p.next }) ≡ None → Follows p (add_request p o size name) 6 2
requested p o size name nobody =
    let x : Obj = record { 0 = p.next } in
    let n : Note = new_note (record { 0 = p.next + 1 }) in
    let a : Pool = add p kind.Request o 0 (codes "req") in
    let b : Pool = note a x n in
    let w = total-unowned p.requests p.rows x n nobody in
    let one = note_weight-most b.requests (new_row x kind.Request o 0 (codes "req")) in
    let two = note_weight-most b.requests (new_row (record { 0 = p.next + 1 }) kind.Plain (Of x) size name) in
    record {
      weight = omega (arith, w, one, two);
      number = omega arith;
      deposit = omega arith;
      later = later-still (later-noted p (note p x n) refl (omega arith) (states-noted p (note p x n) x n refl (omega arith)))
          (later-still (later-added (note p x n) kind.Request o 0 (codes "req")) (later-added b kind.Plain (Of x) size name));
    }

-- one new row, and nothing else of the rows, the numbers and the requests
new-row : (p : Pool) (k : Kind) (o : Owner) (name : List ℕ) (q : Pool) → q.rows ≡ (add p k o 0 name).rows → q.next ≡ (add p k o 0 name).next → q.requests ≡ p.requests → Follows p q 3 1
new-row p k o name q rows next requests =
    let one = note_weight-most p.requests (new_row (record { 0 = p.next }) k o 0 name) in
    let w : total (weight p.requests) (add p k o 0 name).rows ≤ total (weight p.requests) p.rows + 3 = omega (arith, one) in
    record {
      weight = subst (λ (rs : List Row). total (weight q.requests) rs ≤ total (weight p.requests) p.rows + 3) (sym rows) (subst (λ (ns : RequestNotes). total (weight ns) (add p k o 0 name).rows ≤ total (weight p.requests) p.rows + 3) (sym requests) w);
      number = rw rows (omega arith);
      deposit = rw rows (omega arith);
      later = later-still (later-added p k o 0 name) (later-waiting (add p k o 0 name) q rows next requests);
    }

-- the row of a context that is usable, but for the first one
pub record UsableRow (p : Pool) (c : Obj) : Type 0 where
  pub row : Row
  pub is : row_of p.rows c ≡ Some row
  pub context : is_context row.kind ≡ true
  pub mark : is_usable_mark row.mark ≡ true

pub usable-row : (p : Pool) (c : Obj) → IsUsable p c → same c first_context ≡ false → UsableRow p c
usable-row p c (First t) f = let bad : true ≡ false = sym t ∙ f in cc
usable-row p c (Stays k m) f = each (row_of p.rows c) refl k m
  where
    each : (o : Option Row) → row_of p.rows c ≡ o → is_context_row o ≡ true → is_usable_row o ≡ true → UsableRow p c
    each None e k m = cc
    each (Some r) e k m = record { row = r; is = e; context = k; mark = m }

-- it is live, and nothing goes on with it that is a work's own
pub usable-mark : (k : Kind) (m : Mark) → is_context k ≡ true → is_usable_mark m ≡ true → (mark_weight m ≡ 2) × (mark_deposit k m ≡ 0) × (phase_of k m ≡ []) × IsLive m × (is_doomed_mark m ≡ false)
usable-mark k mark.Quiet e u = (refl, refl, refl, tt, refl)
usable-mark k mark.Busy e u = rw e (refl, refl, refl, tt, refl)
usable-mark k _ e u = cc

-- a turn of a context begins
entered : (p : Pool) (c : Obj) → IsUsable p c → Follows p (enter p c) 0 0
entered p c may = by_test (same c first_context)
    (λ t. rw t (waits p p refl refl refl))
    (λ t.
    let u = usable-row p c may t in
    let m = usable-mark u.row.kind u.row.mark u.context u.mark in
    let k = u.context in
    let w = total-kept (weight p.requests) (marked_row mark.Busy) p.rows c u.row u.is (rw m.0 refl) in
    let b = total-kept deposit (marked_row mark.Busy) p.rows c u.row u.is (rw (m.1, k) refl) in
    rw t (record {
      weight = omega (arith, w);
      number = omega (arith, length-changed (marked_row mark.Busy) p.rows c);
      deposit = omega (arith, b);
      later = later-still (later-waiting p (record p { turning = Some c }) refl refl refl) (later-marked (record p { turning = Some c }) c u.row mark.Busy u.is m.3);
    }))

entered-sound : (f f' : Frame) (fs : List Frame) (p : Pool) (c : Obj) → Sound f fs p → ((q : Pool) → Rests f fs q) → IsUsable p c → ((y : Obj) → claim y f' ≡ claim y f) → Rests f' fs (enter p c) → Sound f' fs (enter p c)
entered-sound f f' fs p c s calm may same_claim h = by_test (same c first_context)
    (λ t. rw t (goes_on f f' fs p same_claim (rw t at h) s))
    (λ t.
    let u = usable-row p c may t in
    let m = usable-mark u.row.kind u.row.mark u.context u.mark in
    let k = u.context in
    let none : claim c f ++ claims c fs ≡ [] = s.open_frees c ∙ ap phases u.is ∙ m.2 in
    let b : Sound f fs (set_mark p c mark.Busy) = changed-sound (marked_row mark.Busy) f f fs fs p c u.row s (marks-place mark.Busy) u.is
    (live-owned u.row.mark u.row.owner c m.3 (shape-of p c u.row s.valid u.is)) (context-object u.row.kind u.context)
    (inr (unreferred p.rows c s.forest.distinct (λ r. let r' : IsReferable (Some u.row) = rw u.is at r in let bad : true ≡ false = sym r'.0 ∙ context-unreferable u.row.kind u.context in cc) s.refers))
    (λ y ne. refl) (none ∙ (rw k refl)) (λ z. refl) s.waiting (calm (set_mark p c mark.Busy)) in
    let new : row_of (set_mark p c mark.Busy).rows c ≡ Some (marked_row mark.Busy u.row) = row_of-changed-same (marked_row mark.Busy) p.rows c u.row (λ z. refl) u.is in
    rw t (record {
      started = b.started;
      valid = b.valid;
      forest = b.forest;
      refers = b.refers;
      open_frees = λ x. ap (λ (l : List Phase). l ++ claims x fs) (same_claim x) ∙ b.open_frees x;
      waiting = b.waiting;
      turned = rw new (u.context, refl);
      rests = rw t at h;
    }))
  where
    context-object : (k : Kind) → is_context k ≡ true → target_of k ≡ None
    context-object kind.Context e = refl
    context-object _ e = cc

    context-unreferable : (k : Kind) → is_context k ≡ true → is_referable k ≡ false
    context-unreferable kind.Context e = refl
    context-unreferable _ e = cc

pub follows : (p : Pool) (c : Change) → MayDo p c → Follows p (changed_by c p) (heavier c) (added c)
follows p Nothing may = record { weight = omega arith; number = omega arith; deposit = omega arith; later = later-same p }
follows p (Edit x g) may =
    let w = total-kept (weight p.requests) g p.rows x may.row may.is (edited-weight p.requests g may.row (may.mark may.row) (may.place.serial may.row)) in
    let b = total-kept deposit g p.rows x may.row may.is (let k = may.place.kind may.row in let m = may.mark may.row in rw (k, m) refl) in
    record {
      weight = omega (arith, w);
      number = omega (arith, length-changed g p.rows x);
      deposit = omega (arith, b);
      later = later-changed g p x may.row may.place.serial may.is (λ d. rw (may.mark may.row) d);
    }
follows p (Add kind o size name) may = record { weight = omega (arith, note_weight-most p.requests (new_row (record { 0 = p.next }) kind o size name)); number = omega arith; deposit = omega arith; later = later-added p kind o size name }
follows p (Place o x) may =
    let w = total-placed (weight p.requests) p o x may.row may.is refl in
    let b = total-placed deposit p o x may.row may.is refl in
    record {
      weight = omega (arith, w);
      number = omega (arith, length-placed p o x may.row may.is);
      deposit = omega (arith, b);
      later = later-placed p o x may.row may.is;
    }
follows p (Then first second) may =
    let a = follows p first may.0 in
    let b = follows (changed_by first p) second may.1 in
    record { weight = omega (arith, a.weight, b.weight); number = omega (arith, a.number, b.number); deposit = omega (arith, a.deposit, b.deposit); later = later-still a.later b.later }
follows p (AddQueue o name) may = new-row p kind.Queue o name (changed_by (AddQueue o name) p) refl refl refl
follows p (AddEntry q x trigger) may = new-row p kind.Entry (Of x) (codes "entry") (changed_by (AddEntry q x trigger) p) refl refl refl
follows p TakeNumber may = record { weight = omega arith; number = omega arith; deposit = omega arith; later = later-noted p (changed_by TakeNumber p) refl (omega arith) (λ x k l h. h) }
follows p (AddRequest o size name) may = requested p o size name may.1
follows p (Renotes x g) may = record {
  weight = omega (arith, total-lighter (renoted g p.requests x) p.requests p.rows (renoted-lighter g p.requests x (λ n q h. rw (may n) at h)));
  number = omega arith;
  deposit = omega arith;
  later = later-noted p (changed_by (Renotes x g) p) refl (omega arith) (states-renoted g p (changed_by (Renotes x g) p) x refl (λ n e. rw (may n) (omega arith)));
}
follows p (Enter c) may = entered p c may
follows p c may = waits p (changed_by c p) refl refl refl

-- a request may own objects
request-owns : (rs : List Row) (x : Obj) → is_request_row (row_of rs x) ≡ true → is_owner rs (Of x) ≡ true
request-owns rs x h = each (row_of rs x) refl h
  where
    kinds : (k : Kind) → is_request k ≡ true → not (is_reference k) ≡ true
    kinds kind.Request e = refl
    kinds _ e = cc

    each : (o : Option Row) → row_of rs x ≡ o → is_request_row o ≡ true → is_owner rs (Of x) ≡ true
    each None e t = cc
    each (Some r) e t = rw e (kinds r.kind t)

-- a new request may own its object
request-owner : (p : Pool) (o : Owner) → is_owner (add p kind.Request o 0 (codes "req")).rows (Of (record { 0 = p.next })) ≡ true
request-owner p o = let n : Obj = record { 0 = p.next } in let self : same n n ≡ true = same-equal n n refl in rw self refl

-- the rows stay sound under a work that claims as much
pub change-sound : (f f' : Frame) (fs : List Frame) (p : Pool) (c : Change) → Sound f fs p → MayDo p c → ((y : Obj) → claim y f' ≡ claim y f) → ((q : Pool) → Rests f fs q) → Rests f' fs (changed_by c p) → Sound f' fs (changed_by c p)
change-sound f f' fs p Nothing s may same calm h = goes_on f f' fs p same h s
change-sound f f' fs p (Edit x g) s may same calm h = unmarked-sound g f f' fs p x may.row s may.place may.mark may.is may.object same h
change-sound f f' fs p (Add kind o size name) s may same calm h = new-sound f f' kind o size name fs p s may.there may.target same h
change-sound f f' fs p (Place o x) s may same calm h = placed-sound f f' o x fs p s may same h
change-sound f f' fs p (Then first second) s may same calm h =
    let t = change-sound f f fs p first s may.0 (λ y. refl) calm (calm (changed_by first p)) in
    change-sound f f' fs (changed_by first p) second t may.1 same calm h
change-sound f f' fs p (AddRequest o size name) s may same calm h =
    let x : Obj = record { 0 = p.next } in
    let a : Pool = add p kind.Request o 0 (codes "req") in
    let b : Pool = note a x (new_note (record { 0 = p.next + 1 })) in
    let s1 = new-sound f f kind.Request o 0 (codes "req") fs p s may.0 (λ t e. cc) (λ y. refl) (calm a) in
    let s2 = waiting-sound f f fs a b s1 refl refl refl (λ y. refl) (calm b) in
    new-sound f f' kind.Plain (Of x) size name fs b s2 (request-owner p o) (λ t e. cc) same h
change-sound f f' fs p (AddQueue o name) s may same calm h =
    let a : Pool = add p kind.Queue o 0 name in
    waiting-sound f f' fs a (add_queue p o name) (new-sound f f kind.Queue o 0 name fs p s may (λ t e. cc) (λ y. refl) (calm a)) refl refl refl same h
change-sound f f' fs p (AddEntry q x trigger) s may same calm h =
    let a : Pool = add p kind.Entry (Of x) 0 (codes "entry") in
    waiting-sound f f' fs a (add_entry p q x trigger) (new-sound f f kind.Entry (Of x) 0 (codes "entry") fs p s (request-owns p.rows x may.0) (λ t e. cc) (λ y. refl) (calm a)) refl refl refl same h
change-sound f f' fs p TakeNumber s may same calm h = numbered-sound f f' fs p s same h
change-sound f f' fs p (Enter c) s may same calm h = entered-sound f f' fs p c s calm may same h
change-sound f f' fs p c s may same calm h = waiting-sound f f' fs p (changed_by c p) s refl refl refl same h
