-- A free of another object spares an event, but for the freeing of its owner, which removes it.
use Rattle.std.proofs.Common.{◌≡◌, ◌≢◌, ℕ, List, ◌∷◌, Option, Some, None, refl, sym, ◌∙◌, ap, inl, inr}
use Rattle.std.specs.Prelude.{nat_eq}
use Rattle.tree_specs.specs.declared.object.Obj.{Obj}
use Rattle.tree_specs.specs.declared.object.Owner.{Owner}
use Rattle.tree_specs.specs.declared.object.Owner.TheVariants.{Of}
use Rattle.tree_specs.specs.declared.kind.Kind.TheVariants.{Descriptor}
use Rattle.tree_specs.specs.declared.row.Row.{Row}
use Rattle.tree_specs.specs.declared.row.Mark.{Mark}
use Rattle.tree_specs.specs.declared.row.Mark.TheVariants as mark
use Rattle.tree_specs.specs.declared.frame.Frame.{Frame}
use Rattle.tree_specs.specs.declared.frame.Frame.TheVariants as frame
use Rattle.tree_specs.specs.declared.frame.FreeFrame.{FreeFrame}
use Rattle.tree_specs.specs.declared.frame.FreeFrame.TheVariants.{Unlinking, Releasing, Giving, Beginning, Hooked, Judged, Preparing, Prepared, Dooming, Draining, Leaving, Looping, FreeingChild, AfterChild, Ending}
use Rattle.tree_specs.specs.declared.frame.Purpose.{Purpose}
use Rattle.tree_specs.specs.declared.frame.Purpose.TheVariants.{Removal, Emptying}
use Rattle.tree_specs.specs.declared.free_step.FreeReply.{FreeReply}
use Rattle.tree_specs.specs.declared.free_step.FreeReply.TheVariants as free_reply
use Rattle.tree_specs.specs.Tree.Targets.{newest_ref, target_of}
use Rattle.tree_specs.specs.Tree.Pool.{Pool, row_of, owner_of, owner_in, is_below, is_inside, newest_ref_of, target_at, target_in, noted_owner, first_kid, remove, place, set_mark, set_hook, doom, detach, marked_row, hooked_row, left_row}
use Rattle.tree_specs.specs.Tree.Heirs.{heir}
use Rattle.tree_specs.specs.Tree.Forest.{Distinct}
use Rattle.tree_specs.specs.Events.Rotation.{closes_with}
use Rattle.tree_specs.specs.Calls.Refusals.{is_request, is_queue}
use Rattle.tree_specs.specs.Machine.FreeTable.{free_step, begin_step, begin_by, unlink_step, release_step, refs_step, loop_step, last_step, child_step, tried_step, hand_on_step}
use Rattle.tree_specs.specs.Machine.Table.{lifted, announced, closed_event}
use Rattle.tree_specs.specs.Invariants.Awaiting.{AreDistinct}
use Rattle.tree_specs.specs.Invariants.Consistent.{IsConsistent}
use Rattle.tree_specs.proofs.Tree.Numbered.{by_test, same_or_not}
use Rattle.tree_specs.proofs.Tree.Rows.{first_kid-owner}
use Rattle.tree_specs.proofs.Tree.Referring.{newest-refers, newest-of-refers}
use Rattle.service_rules.proofs.Tending.{Tended, tended-edited, tended-gone, tended-removed, tended-placed}
use Rattle.service_rules.proofs.Sparing.{SparesFree, AllSpare, Removes, Tends, LeadsTends, IsNoEmptying, done-tends, below-tends}

module _ (e k : Obj) (fd : ℕ) (fs : List Frame) (p : Pool) where
  abbrev Leads : FreeFrame → Type 0
  Leads f = LeadsTends e k fd (lifted p.ring (free_step f p)) fs

  -- ---- the owner is removed

  looping-removes : (x : Obj) (h : ℕ) → x ≡ k → Leads (Looping x (Removal h))
  looping-removes x h is = each (first_kid p.rows (Of x))
    where
      child : (c : Obj) (o : Option Obj) → LeadsTends e k fd (lifted p.ring (child_step x c (Removal h) o p)) fs
      child c None = inr (inr (inl is))
      child c (Some target) = inr (inl is)

      each : (c : Option Obj) → LeadsTends e k fd (lifted p.ring (loop_step x (Removal h) c p)) fs
      each None = λ ne. absurd (ne is)
      each (Some c) = child c (target_at p.rows c)

  tried-removes : (x c : Obj) (noted : Option Owner) (h : ℕ) (a : FreeReply) → x ≡ k → Leads (AfterChild x c noted (Removal h) a)
  tried-removes x c noted h a is = each a
    where
      hand : LeadsTends e k fd (lifted p.ring (hand_on_step x c noted (Removal h) p)) fs
      hand = by_test (is_below (owner_of p.rows c) (Of x)) (λ t. rw t (inr (inl is))) (λ t. rw t (inr (inl is)))

      each : (a : FreeReply) → LeadsTends e k fd (lifted p.ring (tried_step x c noted (Removal h) a p)) fs
      each free_reply.Ok = inr (inl is)
      each free_reply.Held = hand
      each free_reply.Running = hand
      each (free_reply.Refused v) = hand

  pub removes-tends : (f : FreeFrame) → IsConsistent (record { innermost = frame.Free f; below = fs; pool = p }) → Removes e k f → Leads f
  removes-tends (Looping x (Removal h)) whole is = looping-removes x h is
  removes-tends (Looping x Emptying) whole is = absurd is
  removes-tends (AfterChild x c noted (Removal h) a) whole is = tried-removes x c noted h a is
  removes-tends (AfterChild x c noted Emptying a) whole is = absurd is
  removes-tends (FreeingChild x c noted purpose) whole is = absurd whole.sound.rests
  removes-tends _ whole is = absurd is

  -- ---- others are freed

  module _ (t : Tended e k fd p) (spare : AllSpare e k fs) (distinct : Distinct p.rows) (watched : AreDistinct p.ring) where
    still : (q : FreeFrame) (r : Pool) → Tended e k fd r → SparesFree e k q → Tends e k fd (frame.Free q) fs r
    still q r t' s = inl (t', (s, spare))

    -- a reference is another object
    no-reference : (r : Obj) (row : Row) (x : Obj) → row_of p.rows r ≡ Some row → target_of row.kind ≡ Some x → r ≢ e
    no-reference r row x is target same =
        let i : row_of p.rows e ≡ Some row = ap (row_of p.rows) (sym same) ∙ is in
        let j : Some t.row ≡ Some row = sym t.is ∙ i in
        let j' : t.row ≡ row = cc in
        let l : target_of Descriptor ≡ Some x = ap target_of (sym (ap (λ (z : Row). z.kind) (sym j') ∙ t.kind)) ∙ target in cc

    newest-other : (x r : Obj) → newest_ref p.rows x ≡ Some r → r ≢ e
    newest-other x r is = let w = newest-refers p.rows x r distinct is in no-reference r w.0 x w.1 w.2

    newest-of-other : (o : Owner) (x r : Obj) → newest_ref_of p.rows o x ≡ Some r → r ≢ e
    newest-of-other o x r is = let w = newest-of-refers p.rows o x r distinct is in no-reference r w.0 x w.1 w.2

    target-other : (c target : Obj) → target_at p.rows c ≡ Some target → c ≢ e
    target-other c target is same =
        let i : target_in (row_of p.rows e) ≡ Some target = ap (target_at p.rows) (sym same) ∙ is in
        let j : target_in (Some t.row) ≡ Some target = ap target_in (sym t.is) ∙ i in
        let l : target_of Descriptor ≡ Some target = ap target_of (sym t.kind) ∙ j in cc

    marked : (x : Obj) (m : Mark) → Tended e k fd (set_mark p x m)
    marked x m = tended-edited e k fd p t (marked_row m) x (λ r. refl) (λ r. refl) (λ r h. h) (λ r. refl)

    begin-spares : (x : Obj) (o : Option Row) → x ≢ e → LeadsTends e k fd (lifted p.ring (begin_step x o p)) fs
    begin-spares x None ne = done-tends e k fd _ p fs (inl (t, spare))
    begin-spares x (Some r) ne = each r.mark
      where
        doomed : (o : Option ℕ) → LeadsTends e k fd (announced (closed_event o) (Dooming x) (doom p x)) fs
        doomed None = still (Dooming x) (doom p x) (tended-gone e k fd p t (marked_row mark.Doomed) x (λ r. refl) watched ne) ne
        doomed (Some n) = still (Dooming x) (doom p x) (tended-gone e k fd p t (marked_row mark.Doomed) x (λ r. refl) watched ne) ne

        each : (m : Mark) → LeadsTends e k fd (lifted p.ring (begin_by x r.kind r.hook m p)) fs
        each mark.Quiet = by_test (is_request r.kind)
            (λ a. rw a (still (Preparing x) (set_mark p x mark.Asked) (marked x mark.Asked) ne))
            (λ a. rw a (by_test (is_queue r.kind)
            (λ b. rw b (still (Draining x) (set_mark p x mark.Asked) (marked x mark.Asked) ne))
            (λ b. rw b (by_test (nat_eq r.hook 0) (λ c. rw c (still (Leaving x 0) p t ne)) (λ c. rw c (still (Hooked x r.hook) (set_mark p x mark.Asked) (marked x mark.Asked) ne))))))
        each mark.Asked = done-tends e k fd _ p fs (inl (t, spare))
        each mark.Busy = doomed (closes_with p.ring x)
        each mark.Doomed = done-tends e k fd _ p fs (inl (t, spare))
        each (mark.Dying former) = done-tends e k fd _ p fs (inl (t, spare))

    looping-spares : (x : Obj) (purpose : Purpose) → x ≢ e → IsNoEmptying k purpose x → Leads (Looping x purpose)
    looping-spares x purpose ne kept = each (first_kid p.rows (Of x)) refl
      where
        last : (purpose : Purpose) → LeadsTends e k fd (lifted p.ring (last_step x purpose p)) fs
        last (Removal h) = λ other. still (Ending free_reply.Ok) (remove p x) (tended-removed e k fd p t x ne) tt
        last Emptying = done-tends e k fd _ p fs (inl (t, spare))

        -- the event itself is freed: with its owner
        own : (c : Obj) (purpose : Purpose) → first_kid p.rows (Of x) ≡ Some c → c ≡ e → IsNoEmptying k purpose x → Tends e k fd (frame.Free (Beginning c)) (frame.Free (FreeingChild x c (noted_owner p.rows c) purpose) ∷ fs) p
        own c purpose first is kept =
            let o : owner_of p.rows e ≡ Some (Of x) = ap (owner_of p.rows) (sym is) ∙ first_kid-owner p.rows (Of x) c distinct first in
            let o' : owner_in (Some t.row) ≡ Some (Of x) = ap owner_in (sym t.is) ∙ o in
            let s : Some (Of k) ≡ Some (Of x) = sym t.owner ∙ o' in
            let s' : k ≡ x = cc in
            by purpose (sym s') kept
          where
            by : (purpose : Purpose) → x ≡ k → IsNoEmptying k purpose x → Tends e k fd (frame.Free (Beginning c)) (frame.Free (FreeingChild x c (noted_owner p.rows c) purpose) ∷ fs) p
            by (Removal h) s kept = inr (inr (inl s))
            by Emptying s kept = absurd (kept s)

        child : (c : Obj) (o : Option Obj) → first_kid p.rows (Of x) ≡ Some c → target_at p.rows c ≡ o → LeadsTends e k fd (lifted p.ring (child_step x c purpose o p)) fs
        child c None first is = elim (same_or_not c e) [
          | inl s ↦ own c purpose first s kept
          | inr other ↦ inl (t, (other, ((ne, kept, other), spare)))
        ]
        child c (Some target) first is = still (Looping x purpose) (remove p c) (tended-removed e k fd p t c (target-other c target is)) (ne, kept)

        each : (c : Option Obj) → first_kid p.rows (Of x) ≡ c → LeadsTends e k fd (lifted p.ring (loop_step x purpose c p)) fs
        each None first = last purpose
        each (Some c) first = child c (target_at p.rows c) first refl

    pub spared-tends : (f : FreeFrame) → SparesFree e k f → Leads f
    spared-tends (Unlinking o x) s = each (newest_ref_of p.rows o x) refl
      where
        each : (r : Option Obj) → newest_ref_of p.rows o x ≡ r → LeadsTends e k fd (lifted p.ring (unlink_step x r p)) fs
        each None is = still (Releasing x) p t s
        each (Some r) is = still (Ending free_reply.Ok) (remove p r) (tended-removed e k fd p t r (newest-of-other o x r is)) tt
    spared-tends (Releasing x) s = each (newest_ref p.rows x) refl
      where
        each : (r : Option Obj) → newest_ref p.rows x ≡ r → LeadsTends e k fd (lifted p.ring (release_step x r p)) fs
        each None is = still (Beginning x) p t s
        each (Some r) is = let t' = tended-removed e k fd p t r (newest-other x r is) in
            by_test (is_inside p.rows (Of r) (Of x)) (λ b. rw b (inl (t', (s, spare)))) (λ b. rw b (inl (t', (s, spare))))
    spared-tends (Giving x o) s = still (Ending free_reply.Ok) (place p o x) (tended-placed e k fd p t o x s) tt
    spared-tends (Beginning x) s = each (newest_ref p.rows x) refl
      where
        each : (r : Option Obj) → newest_ref p.rows x ≡ r → LeadsTends e k fd (lifted p.ring (refs_step x r p)) fs
        each None is = begin-spares x (row_of p.rows x) s
        each (Some r) is = let t' = tended-removed e k fd p t r (newest-other x r is) in
            by_test (is_inside p.rows (Of r) (Of x)) (λ b. rw b (inl (t', (s, spare)))) (λ b. rw b (inl (t', (tt, spare))))
    spared-tends (Hooked x h) s = inl (t, (tt, (s, spare)))
    spared-tends (Judged x h v) s = by_test (nat_eq v 0)
        (λ b. rw b (still (Leaving x h) (set_hook p x 0) (tended-edited e k fd p t (hooked_row 0) x (λ r. refl) (λ r. refl) (λ r i. refl) (λ r. refl)) s))
        (λ b. rw b (still (Ending (free_reply.Refused v)) (set_mark p x mark.Quiet) (marked x mark.Quiet) tt))
    spared-tends (Preparing x) s = inl (t, (tt, (s, spare)))
    spared-tends (Draining x) s = inl (t, (tt, (s, spare)))
    spared-tends (Prepared x) s = still (Leaving x 0) (set_mark p x mark.Quiet) (marked x mark.Quiet) s
    spared-tends (Dooming x) s = done-tends e k fd _ p fs (inl (t, spare))
    spared-tends (Leaving x h) s = left (closes_with p.ring x)
      where
        left : (o : Option ℕ) → LeadsTends e k fd (announced (closed_event o) (Looping x (Removal h)) (detach p x)) fs
        left None = still (Looping x (Removal h)) (detach p x) (tended-gone e k fd p t left_row x (λ r. refl) watched s) (s, tt)
        left (Some n) = still (Looping x (Removal h)) (detach p x) (tended-gone e k fd p t left_row x (λ r. refl) watched s) (s, tt)
    spared-tends (Looping x purpose) s = looping-spares x purpose s.0 s.1
    spared-tends (FreeingChild x c noted purpose) s = done-tends e k fd _ p fs (inl (t, spare))
    spared-tends (AfterChild x c noted purpose a) s = each a
      where
        hand : LeadsTends e k fd (lifted p.ring (hand_on_step x c noted purpose p)) fs
        hand = by_test (is_below (owner_of p.rows c) (Of x))
            (λ b. rw b (still (Looping x purpose) (place p (heir p.rows x c noted) c) (tended-placed e k fd p t (heir p.rows x c noted) c s.2) (s.0, s.1)))
            (λ b. rw b (still (Looping x purpose) p t (s.0, s.1)))

        each : (a : FreeReply) → LeadsTends e k fd (lifted p.ring (tried_step x c noted purpose a p)) fs
        each free_reply.Ok = still (Looping x purpose) p t (s.0, s.1)
        each free_reply.Held = hand
        each free_reply.Running = hand
        each (free_reply.Refused v) = hand
    spared-tends (Ending a) s = done-tends e k fd _ p fs (inl (t, spare))

  pub free-tends : (f : FreeFrame) → IsConsistent (record { innermost = frame.Free f; below = fs; pool = p }) → Tends e k fd (frame.Free f) fs p → Leads f
  free-tends f whole (inl w) = spared-tends w.0 w.1.1 whole.sound.forest.distinct whole.awaits.distinct f w.1.0
  free-tends f whole (inr (inl r)) = removes-tends f whole r
  free-tends f whole (inr (inr r)) = below-tends e k fd (lifted p.ring (free_step f p)) fs r
