-- Why a free of the rules' text answers as it does, over every pool and every list of inputs.
use Rattle.tree_specs.specs.declared.object.Owner.{Owner}
use Rattle.tree_specs.specs.declared.object.Owner.TheVariants.{Root, Of}
use Rattle.tree_specs.specs.Tree.Targets.{newest_ref}
use Rattle.std.proofs.Common.{◌≡◌, ℕ, suc, zero, nat_eq, List, [], ◌∷◌, ◌++◌, Option, Some, None, true, false, refl, sym, ◌∙◌, ap, subst, inl, inr, unwrap_or}
use Rattle.step_machine.specs.Machine.{Outcome, tell, tells, followed}
use Rattle.step_machine.specs.Machine.Outcome.{Ended, Short}
use Rattle.step_machine.specs.Open.{LastIs}
use Rattle.step_machine.proofs.Uses.{ended-tell, ended-followed}
use Rattle.tree_specs.specs.declared.object.Obj.{Obj}
use Rattle.tree_specs.specs.declared.row.Row.{Row}
use Rattle.tree_specs.specs.declared.row.Mark.{Mark}
use Rattle.tree_specs.specs.declared.row.Mark.TheVariants as mark
use Rattle.tree_specs.specs.declared.event.Event.TheVariants.{Accepted, Refused, Moved, Freed, Unreferenced}
use Rattle.tree_specs.specs.declared.question.Ask.TheVariants as ask
use Rattle.tree_specs.specs.declared.question.Input.{Input}
use Rattle.tree_specs.specs.declared.free_step.FreeReply.{FreeReply}
use Rattle.tree_specs.specs.declared.free_step.FreeReply.TheVariants as free_reply
use Rattle.tree_specs.specs.Tree.Pool.{Pool, row_of, owner_of, newest_ref_of, place, detach, remove, without, set_mark, doom, set_hook, is_inside, marked_row}
use Rattle.tree_specs.specs.Rules.Items.Item.{Told}
use Rattle.tree_specs.specs.Rules.Sequence.{Work, Scene}
use Rattle.tree_specs.specs.Rules.Answers.{hook_moment}
use Rattle.tree_specs.specs.Rules.Story.{unlink, release, given, free, hooked, judged, dooming, preparing, draining, prepared, receiving, vacating, leave, children, asked}
use Rattle.tree_specs.specs.Rules.Pieces.{lets_go}
use Rattle.tree_specs.specs.Calls.Refusals.{is_request, is_queue}
use Rattle.tree_specs.specs.Promises.Grounded.{DropsOutside, IsItem}
use Rattle.tree_specs.specs.Promises.Refused.{doomed, told_closed, closed_at}
use Rattle.tree_specs.specs.Events.Rotation.{closes_with}
use Rattle.tree_specs.specs.Calls.Refusals.{is_running}
use Rattle.tree_specs.specs.Tree.Forest.{Distinct}
use Rattle.tree_specs.proofs.Tree.Rows.{row_of-changed-same, row_of-without-same, row_of-without-other, Distinct-without}
use Rattle.tree_specs.proofs.Tree.Numbered.{by_test, same_or_not}
use Rattle.tree_specs.proofs.Promises.Fitting.{last-more}
use Rattle.tree_specs.proofs.Rules.LettingGo.{tells-ended, tells-short, lets_go-is}

-- it runs, or a reference from outside was dropped last, or its refusal was told last
abbrev pub FreeCause : Type 0 → Obj → List Scene → FreeReply → Type 0
FreeCause Runs x told free_reply.Ok = Unit {0}
FreeCause Runs x told free_reply.Held = LastIs (DropsOutside x) told
FreeCause Runs x told free_reply.Running = Runs
FreeCause Runs x told (free_reply.Refused v) = LastIs (IsItem (Told (Refused x v))) told

-- it runs at the end, as it did at the beginning
abbrev pub RunsFrom : Pool → Obj → Pool → Type 0
RunsFrom p x q = (is_running q x ≡ true) × (Distinct p.rows → is_running p x ≡ true)

last-behind : (Q : Scene → Type 0) (s : Scene) (ts : List Scene) → LastIs Q ts → LastIs Q (s ∷ ts)
last-behind Q s [] h = absurd h
last-behind Q s (t ∷ ts) h = h

behind-cause : (Runs Ran : Type 0) (x : Obj) (s : Scene) (ts : List Scene) (a : FreeReply) → (Ran → Runs) → FreeCause Ran x ts a → FreeCause Runs x (s ∷ ts) a
behind-cause Runs Ran x s ts free_reply.Ok g h = h
behind-cause Runs Ran x s ts free_reply.Held g h = last-behind (DropsOutside x) s ts h
behind-cause Runs Ran x s ts free_reply.Running g h = g h
behind-cause Runs Ran x s ts (free_reply.Refused v) g h = last-behind (IsItem (Told (Refused x v))) s ts h

is-ok : (Runs : Type 0) (x : Obj) (told : List Scene) (a : FreeReply) → a ≡ free_reply.Ok → FreeCause Runs x told a
is-ok Runs x told free_reply.Ok e = tt
is-ok Runs x told _ e = cc

-- what runs without a reference to it runs with it
runs-before : (p : Pool) (x r : Obj) (q : Pool) → RunsFrom (remove p r) x q → RunsFrom p x q
runs-before p x r q h = (
  h.0,
  λ d. elim (same_or_not r x) [
    | inl s ↦
        let gone : row_of (without p.rows x) x ≡ None = row_of-without-same p.rows x d in
        let run : is_running (remove p x) x ≡ true = subst (λ (z : Obj). is_running (remove p z) x ≡ true) s (h.1 (Distinct-without p.rows r d)) in
        let bad : false ≡ true = rw gone at run in cc
    | inr ne ↦ rw (row_of-without-other p.rows r x ne) at (h.1 (Distinct-without p.rows r d))
  ],
)

-- an object that leaves its owner is freed
pub leave-ok : (n : ℕ) (x : Obj) (h : ℕ) (p : Pool) (is : List Input) (a : FreeReply) (q : Pool) (ts : List Scene) (left : List Input) → leave n x h p is ≡ Ended a q ts left → a ≡ free_reply.Ok
leave-ok zero x h p is a q ts left e = cc
leave-ok (suc n) x h p is a q ts left e =
    let v = ended-followed (lets_go x (λ r. detach r x) p is) (λ b r mid. followed (children n x r mid) gone) a q ts left e in
    let w = ended-followed (children n x v.1 v.4) gone a q v.3 left v.6 in
    let e' : Ended free_reply.Ok (remove w.1 x) (record { item = Told (Freed x h); before = w.1; about = None } ∷ []) w.4 ≡ Ended a q w.3 left = w.6 in
    cc
  where
    gone : Unit {0} → Work FreeReply
    gone b r mid = tell (record { item = Told (Freed x h); before = r; about = None }) (Ended free_reply.Ok (remove r x) [] mid)

-- and so is a request after it was received
prepared-ok : (n : ℕ) (x : Obj) (p : Pool) (is : List Input) (a : FreeReply) (q : Pool) (ts : List Scene) (left : List Input) → prepared n x p is ≡ Ended a q ts left → a ≡ free_reply.Ok
prepared-ok zero x p is a q ts left e = cc
prepared-ok (suc n) x p is a q ts left e = leave-ok n x 0 (set_mark p x mark.Quiet) is a q ts left e

pub received-ok : (n : ℕ) (x : Obj) (p : Pool) (is : List Input) (a : FreeReply) (q : Pool) (ts : List Scene) (left : List Input) → preparing n x p is ≡ Ended a q ts left → a ≡ free_reply.Ok
received-ok zero x p is a q ts left e = cc
received-ok (suc n) x p is a q ts left e =
    let w = ended-followed (receiving n x p is) (λ r. prepared n x) a q ts left e in
    prepared-ok n x w.1 w.4 a q w.3 left w.6

pub drained-ok : (n : ℕ) (x : Obj) (p : Pool) (is : List Input) (a : FreeReply) (q : Pool) (ts : List Scene) (left : List Input) → draining n x p is ≡ Ended a q ts left → a ≡ free_reply.Ok
drained-ok zero x p is a q ts left e = cc
drained-ok (suc n) x p is a q ts left e =
    let w = ended-followed (vacating n x p is) (λ r. prepared n x) a q ts left e in
    prepared-ok n x w.1 w.4 a q w.3 left w.6

judged-cause : (n : ℕ) (x : Obj) (h v : ℕ) (p : Pool) (is : List Input) (a : FreeReply) (q : Pool) (ts : List Scene) (left : List Input) → judged n x h v p is ≡ Ended a q ts left
    → (Runs : Type 0) (us : List Scene) → FreeCause Runs x (us ++ ts) a
judged-cause zero x h v p is a q ts left e Runs us = cc
judged-cause (suc n) x h v p is a q ts left e Runs us = by_test (nat_eq v 0)
    (λ t.
    let e' : tell (record { item = Told (Accepted x); before = p; about = None }) (leave n x h (set_hook p x 0) is) ≡ Ended a q ts left = rw t at e in
    let w = ended-tell _ (leave n x h (set_hook p x 0) is) a q ts left e' in
    is-ok Runs x (us ++ ts) a (leave-ok n x h (set_hook p x 0) is a q w.0 left w.1))
    (λ t.
    let s : Scene = record { item = Told (Refused x v); before = p; about = None } in
    let e' : Ended (free_reply.Refused v) (set_mark p x mark.Quiet) (s ∷ []) is ≡ Ended a q ts left = rw t at e in
    let e1 : free_reply.Refused v ≡ a = cc in
    let e2 : s ∷ [] ≡ ts = cc in
    subst (FreeCause Runs x (us ++ ts)) e1 (subst (λ (l : List Scene). LastIs (IsItem (Told (Refused x v))) (us ++ l)) e2 (last-more (IsItem (Told (Refused x v))) us s refl)))

-- ---- the ways that a free goes

-- the newest reference is dropped
abbrev pub dropped_scene : Pool → Obj → Obj → Scene
dropped_scene p x r = record { item = Told (Unreferenced r x); before = p; about = None }

-- how a free goes on with one turn more
pub data FreeGoes (n : ℕ) (x : Obj) (p : Pool) (is : List Input) (a : FreeReply) (q : Pool) (ts : List Scene) (left : List Input) : Type 0 where
  -- there is nothing to free
  IsOver : Ended free_reply.Ok p [] is ≡ Ended a q ts left → FreeGoes n x p is a q ts left
  ByLeaving : leave n x 0 p is ≡ Ended a q ts left → FreeGoes n x p is a q ts left
  -- it is a request, and is received first
  ByReceiving : preparing n x (set_mark p x mark.Asked) is ≡ Ended a q ts left → FreeGoes n x p is a q ts left
  -- it is a queue, and its entries are freed first
  ByDraining : draining n x (set_mark p x mark.Asked) is ≡ Ended a q ts left → FreeGoes n x p is a q ts left
  -- its destructor runs, and has returned
  ByAsking : (m h v : ℕ) (r : Pool) (us vs : List Scene) (mid : List Input) → asked m (ask.Routine (hook_moment x h)) (set_mark p x mark.Asked) is ≡ Ended v r us mid → judged m x h v r mid ≡ Ended a q vs left → us ++ vs ≡ ts → FreeGoes n x p is a q ts left
  -- it runs already, or its handler runs and it is doomed by this
  AsRunning : (r : Pool) → is_running p x ≡ true → is_running r x ≡ true → r ≡ doomed x p → Ended free_reply.Running r (closed_at (row_of p.rows x) x p) is ≡ Ended a q ts left → FreeGoes n x p is a q ts left
  -- a reference from inside was dropped, and it begins again
  Again : (r : Obj) (us : List Scene) → free n x (remove p r) is ≡ Ended a q us left → dropped_scene p x r ∷ us ≡ ts → FreeGoes n x p is a q ts left
  AsHeld : (r : Obj) → newest_ref p.rows x ≡ Some r → is_inside p.rows (Of r) (Of x) ≡ false → Ended free_reply.Held (remove p r) (dropped_scene p x r ∷ []) is ≡ Ended a q ts left → FreeGoes n x p is a q ts left

pub free-goes : (n : ℕ) (x : Obj) (p : Pool) (is : List Input) (a : FreeReply) (q : Pool) (ts : List Scene) (left : List Input) → free (suc n) x p is ≡ Ended a q ts left → FreeGoes n x p is a q ts left
free-goes n x p is a q ts left e = newest (newest_ref p.rows x) refl
  where
    Goes : Type 0
    Goes = FreeGoes n x p is a q ts left

    asks : (m h : ℕ) → hooked m x h (set_mark p x mark.Asked) is ≡ Ended a q ts left → Goes
    asks zero h k = cc
    asks (suc m) h k =
        let w = ended-followed (asked m (ask.Routine (hook_moment x h)) (set_mark p x mark.Asked) is) (λ v r mid. judged m x h v r mid) a q ts left k in
        ByAsking m h w.0 w.1 w.2 w.3 w.4 w.5 w.6 w.7

    -- its descriptor may be closed before
    dooms : (m : ℕ) (r : Row) → row_of p.rows x ≡ Some r → r.mark ≡ mark.Busy → followed (lets_go x (λ s. doom s x) p is) (λ b. dooming m x) ≡ Ended a q ts left → Goes
    dooms m r k busy h = each m (ap (λ (o : Outcome (Unit {0}) Pool Input Scene). followed o (λ b. dooming m x)) (sym (lets_go-is x (λ s. doom s x) p is)) ∙ h)
      where
        each : (m : ℕ) → tells (told_closed (closes_with p.ring x) p) (dooming m x (doom p x) is) ≡ Ended a q ts left → Goes
        each zero h = let bad : Short ≡ Ended a q ts left = sym (tells-short (told_closed (closes_with p.ring x) p)) ∙ h in cc
        each (suc m) h =
            let ran : is_running p x ≡ true = rw (k, busy) refl in
            let run : is_running (doom p x) x ≡ true = rw (row_of-changed-same (marked_row mark.Doomed) p.rows x r (λ s. refl) k) refl in
            AsRunning (doom p x) ran run (rw (k, busy) refl) (rw (k, busy) (sym (tells-ended (told_closed (closes_with p.ring x) p) free_reply.Running (doom p x) is) ∙ h))

    marks : newest_ref p.rows x ≡ None → (r : Row) (m : Mark) → r.mark ≡ m → row_of p.rows x ≡ Some r → Goes
    marks z r mark.Quiet m k = by_test (is_request r.kind)
        (λ u. ByReceiving (rw (z, k, m, u) at e))
        (λ u. by_test (is_queue r.kind)
        (λ v. ByDraining (rw (z, k, m, u, v) at e))
        (λ v. by_test (nat_eq r.hook 0)
        (λ t. ByLeaving (rw (z, k, m, u, v, t) at e))
        (λ t. asks n r.hook (rw (z, k, m, u, v, t) at e))))
    marks z r mark.Asked m k = AsRunning p (rw (k, m) refl) (rw (k, m) refl) (rw (k, m) refl) (let e' : Ended free_reply.Running p [] is ≡ Ended a q ts left = rw (z, k, m) at e in rw (k, m) e')
    marks z r mark.Busy m k = dooms n r k m (rw (z, k, m) at e)
    marks z r mark.Doomed m k = AsRunning p (rw (k, m) refl) (rw (k, m) refl) (rw (k, m) refl) (let e' : Ended free_reply.Running p [] is ≡ Ended a q ts left = rw (z, k, m) at e in rw (k, m) e')
    marks z r (mark.Dying former) m k = IsOver (rw (z, k, m) at e)

    each : newest_ref p.rows x ≡ None → (o : Option Row) → row_of p.rows x ≡ o → Goes
    each z None k = IsOver (rw (z, k) at e)
    each z (Some r) k = marks z r r.mark refl k

    newest : (o : Option Obj) → newest_ref p.rows x ≡ o → Goes
    newest None z = each z (row_of p.rows x) refl
    newest (Some r) z = by_test (is_inside p.rows (Of r) (Of x))
        (λ t. let e' : tell (dropped_scene p x r) (free n x (remove p r) is) ≡ Ended a q ts left = rw (z, t) at e in
        let w = ended-tell (dropped_scene p x r) (free n x (remove p r) is) a q ts left e' in
        Again r w.0 w.1 w.2)
        (λ t. AsHeld r z t (rw (z, t) at e))

-- ---- causes

-- a free with one turn more, where it is so with one turn less
free-cause-more : (n : ℕ) (x : Obj) → ((p : Pool) (is : List Input) (a : FreeReply) (q : Pool) (ts : List Scene) (left : List Input) → free n x p is ≡ Ended a q ts left → FreeCause (RunsFrom p x q) x ts a)
    → (p : Pool) (is : List Input) (a : FreeReply) (q : Pool) (ts : List Scene) (left : List Input) → FreeGoes n x p is a q ts left → FreeCause (RunsFrom p x q) x ts a
free-cause-more n x ih p is a q ts left (IsOver k) = let ok : a ≡ free_reply.Ok = cc in is-ok (RunsFrom p x q) x ts a ok
free-cause-more n x ih p is a q ts left (ByLeaving k) = is-ok (RunsFrom p x q) x ts a (leave-ok n x 0 p is a q ts left k)
free-cause-more n x ih p is a q ts left (ByReceiving k) = is-ok (RunsFrom p x q) x ts a (received-ok n x (set_mark p x mark.Asked) is a q ts left k)
free-cause-more n x ih p is a q ts left (ByDraining k) = is-ok (RunsFrom p x q) x ts a (drained-ok n x (set_mark p x mark.Asked) is a q ts left k)
free-cause-more n x ih p is a q ts left (ByAsking m h v r us vs mid run judge told) =
    subst (λ (l : List Scene). FreeCause (RunsFrom p x q) x l a) told (judged-cause m x h v r mid a q vs left judge (RunsFrom p x q) us)
free-cause-more n x ih p is a q ts left (AsRunning r ran run is_doomed k) =
    let e1 : free_reply.Running ≡ a = cc in
    let e2 : r ≡ q = cc in
    subst (FreeCause (RunsFrom p x q) x ts) e1 (subst (λ (z : Pool). is_running z x ≡ true) e2 run, λ d. ran)
free-cause-more n x ih p is a q ts left (Again r us k told) =
    subst (λ (l : List Scene). FreeCause (RunsFrom p x q) x l a) told (behind-cause (RunsFrom p x q) (RunsFrom (remove p r) x q) x (dropped_scene p x r) us a (runs-before p x r q) (ih (remove p r) is a q us left k))
free-cause-more n x ih p is a q ts left (AsHeld r z t k) =
    let e1 : free_reply.Held ≡ a = cc in
    let e2 : dropped_scene p x r ∷ [] ≡ ts = cc in
    subst (FreeCause (RunsFrom p x q) x ts) e1 (subst (λ (l : List Scene). LastIs (DropsOutside x) l) e2 (r, refl, z, t))

pub free-cause : (n : ℕ) (x : Obj) (p : Pool) (is : List Input) (a : FreeReply) (q : Pool) (ts : List Scene) (left : List Input) → free n x p is ≡ Ended a q ts left → FreeCause (RunsFrom p x q) x ts a
free-cause zero x p is a q ts left e = cc
free-cause (suc n) x p is a q ts left e = free-cause-more n x (free-cause n x) p is a q ts left (free-goes n x p is a q ts left e)

-- ---- an owner's interest is taken away

-- what is given to another owner isn't refused
pub given-ok : (n : ℕ) (x : Obj) (o : Owner) (p : Pool) (is : List Input) (a : FreeReply) (q : Pool) (ts : List Scene) (left : List Input) → given n x o p is ≡ Ended a q ts left → a ≡ free_reply.Ok
given-ok zero x o p is a q ts left e = cc
given-ok (suc n) x o p is a q ts left e =
    let e' : Ended free_reply.Ok (place p o x) (record { item = Told (Moved x o); before = p; about = None } ∷ []) is ≡ Ended a q ts left = e in
    cc

-- what is so of a free of an object is so of what takes an owner's interest in it away, where it is so of what was freed
-- or given, and stays so of what has dropped one reference more
module _ (x : Obj) (Q : Pool → List Input → FreeReply → Pool → List Scene → List Input → Type 0)
    (ok : (p : Pool) (is : List Input) (a : FreeReply) (q : Pool) (ts : List Scene) (left : List Input) → a ≡ free_reply.Ok → Q p is a q ts left)
    (again : (p : Pool) (r : Obj) (is : List Input) (a : FreeReply) (q : Pool) (us : List Scene) (left : List Input) → Q (remove p r) is a q us left → Q p is a q (dropped_scene p x r ∷ us) left)
    (freed : (n : ℕ) (p : Pool) (is : List Input) (a : FreeReply) (q : Pool) (ts : List Scene) (left : List Input) → free n x p is ≡ Ended a q ts left → Q p is a q ts left) where
  released-more : (n : ℕ) → ((p : Pool) (is : List Input) (a : FreeReply) (q : Pool) (ts : List Scene) (left : List Input) → release n x p is ≡ Ended a q ts left → Q p is a q ts left)
      → (p : Pool) (is : List Input) (a : FreeReply) (q : Pool) (ts : List Scene) (left : List Input) → release (suc n) x p is ≡ Ended a q ts left → Q p is a q ts left
  released-more n ih p is a q ts left e = newest (newest_ref p.rows x) refl
    where
      newest : (o : Option Obj) → newest_ref p.rows x ≡ o → Q p is a q ts left
      newest None z = freed n p is a q ts left (rw z at e)
      newest (Some r) z =
          let s : Scene = dropped_scene p x r in
          let o : Owner = unwrap_or (owner_of p.rows r) Root in
          by_test (is_inside p.rows (Of r) (Of x))
          (λ t. let e' : tell s (release n x (remove p r) is) ≡ Ended a q ts left = rw (z, t) at e in
          let w = ended-tell s (release n x (remove p r) is) a q ts left e' in
          subst (λ (l : List Scene). Q p is a q l left) w.2 (again p r is a q w.0 left (ih (remove p r) is a q w.0 left w.1)))
          (λ t. let e' : tell s (given n x o (remove p r) is) ≡ Ended a q ts left = rw (z, t) at e in
          let w = ended-tell s (given n x o (remove p r) is) a q ts left e' in
          ok p is a q ts left (given-ok n x o (remove p r) is a q w.0 left w.1))

  pub released : (n : ℕ) (p : Pool) (is : List Input) (a : FreeReply) (q : Pool) (ts : List Scene) (left : List Input) → release n x p is ≡ Ended a q ts left → Q p is a q ts left
  released zero p is a q ts left e = cc
  released (suc n) p is a q ts left e = released-more n (released n) p is a q ts left e

  pub unlinked : (n : ℕ) (o : Owner) (p : Pool) (is : List Input) (a : FreeReply) (q : Pool) (ts : List Scene) (left : List Input) → unlink n o x p is ≡ Ended a q ts left → Q p is a q ts left
  unlinked zero o p is a q ts left e = cc
  unlinked (suc n) o p is a q ts left e = newest (newest_ref_of p.rows o x) refl
    where
      newest : (r : Option Obj) → newest_ref_of p.rows o x ≡ r → Q p is a q ts left
      newest None z = released n p is a q ts left (rw z at e)
      newest (Some r) z =
          let e' : Ended free_reply.Ok (remove p r) (dropped_scene p x r ∷ []) is ≡ Ended a q ts left = rw z at e in
          let done : a ≡ free_reply.Ok = cc in
          ok p is a q ts left done

pub unlink-cause : (n : ℕ) (o : Owner) (x : Obj) (p : Pool) (is : List Input) (a : FreeReply) (q : Pool) (ts : List Scene) (left : List Input) → unlink n o x p is ≡ Ended a q ts left → FreeCause (RunsFrom p x q) x ts a
unlink-cause n o x p is a q ts left e = unlinked x (λ p is a q ts left. FreeCause (RunsFrom p x q) x ts a)
    (λ p is a q ts left ok. is-ok (RunsFrom p x q) x ts a ok)
    (λ p r is a q us left h. behind-cause (RunsFrom p x q) (RunsFrom (remove p r) x q) x (dropped_scene p x r) us a (runs-before p x r q) h)
    (λ n. free-cause n x)
    n o p is a q ts left e
