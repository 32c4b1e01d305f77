-- The steps of frees.
use Rattle.tree_specs.specs.Machine.Profiles.{InRun, InLoop}
use Rattle.std.proofs.Common.{◌≡◌, ℕ, List, [], ◌∷◌, ◌++◌, Option, Some, None, true, false, nat_eq, refl, ◌∙◌, ap, subst, inl, map}
use Rattle.std.specs.List.{list_any}
use Rattle.step_machine.specs.Machine.{Move as Do}
use Rattle.step_machine.specs.Noted.{with_note, scene}
use Rattle.tree_specs.specs.declared.object.Obj.{Obj}
use Rattle.tree_specs.specs.declared.object.Owner.{Owner}
use Rattle.tree_specs.specs.declared.object.Owner.TheVariants.{Of}
use Rattle.tree_specs.specs.declared.row.Row.{Row}
use Rattle.tree_specs.specs.declared.row.Mark.TheVariants as mark
use Rattle.tree_specs.specs.declared.question.Ask.TheVariants as ask
use Rattle.tree_specs.specs.declared.event.Event.TheVariants.{Accepted, Refused, Moved, Freed, Unreferenced}
use Rattle.tree_specs.specs.declared.frame.Frame.{Frame}
use Rattle.tree_specs.specs.declared.frame.Frame.TheVariants as frame
use Rattle.tree_specs.specs.declared.frame.CallFrame.TheVariants.{Asking}
use Rattle.tree_specs.specs.declared.frame.FreeFrame.TheVariants.{Beginning, Hooked, Judged, Leaving, Looping, FreeingChild, AfterChild, Ending}
use Rattle.tree_specs.specs.declared.frame.Purpose.{Purpose}
use Rattle.tree_specs.specs.declared.frame.Purpose.TheVariants.{Removal, Emptying}
use Rattle.tree_specs.specs.declared.free_step.FreeReply.{FreeReply}
use Rattle.tree_specs.specs.declared.free_step.FreeReply.TheVariants as free_reply
use Rattle.tree_specs.specs.Tree.Pool.{Pool, row_of, is_row, owner_of, is_below, first_kid, remove, detach, left_row, place, set_mark, set_hook, target_at, noted_owner}
use Rattle.tree_specs.specs.Tree.Heirs.{heir}
use Rattle.tree_specs.specs.Events.Rotation.{closes_with}
use Rattle.tree_specs.specs.Rules.Items.Item.{Told}
use Rattle.tree_specs.specs.Rules.Sequence.{CallStart, Scene}
use Rattle.tree_specs.specs.Rules.Answers.{hook_moment}
use Rattle.tree_specs.specs.Machine.FreeTable.{judge_step, last_step, loop_step, hand_on_step, child_step}
use Rattle.tree_specs.specs.Machine.Table.{notes, lifted}
use Rattle.tree_specs.specs.Promises.Orderly.{frees, accepts}
use Rattle.tree_specs.specs.Promises.Grounded.{IsItem, is_asked}
use Rattle.tree_specs.specs.Invariants.Sound.{IsLive, claims, ValidAt}
use Rattle.tree_specs.specs.Invariants.Consistent.{IsConsistent}
use Rattle.tree_specs.proofs.Tree.Numbered.{by_test}
use Rattle.tree_specs.proofs.Tree.Rows.{row_of-changed-same, row_of-without-same}
use Rattle.tree_specs.proofs.Invariants.Changes.{heir-placed, running-row, dying-row, claim-here}
use Rattle.tree_specs.proofs.Promises.Later.{IsPast, later-same, later-placed, later-marked, later-hooked, later-left, later-removed}
use Rattle.tree_specs.proofs.Promises.Past.{past-goes, past-tells, past-accepts, past-frees, unfreed, unaccepted, Accounts, any-as-before}
use Rattle.tree_specs.proofs.Promises.Causes.{NotedWork, told, StandsOn, Stacked, IsRefusedFor}
use Rattle.tree_specs.proofs.Invariants.Waiters.{Waiter, ForFree}
use Rattle.tree_specs.proofs.Promises.Fitting.{last-more, fits-accepted, fits-refused, fits-freed, fits-moved}
use Rattle.tree_specs.proofs.Promises.Fine.{work_of, Known, FineBy, restacked, of-next, known-told}
use Rattle.tree_specs.proofs.Promises.FineDrops.{At, over-fine, closing-fine, dropped-fine}

module _ (scenes : List Scene) (b : Option CallStart) (ws : List NotedWork) (p : Pool) where
  pub hooked-fine : (x : Obj) (h : ℕ) → At scenes b ws p (Hooked x h)
  hooked-fine x h whole known = record {
    past = past-goes (told scenes) (frame.Free (Hooked x h)) (frame.Call (Asking (ask.Routine (hook_moment x h)))) (map work_of ws) (frame.Free (Hooked x h) ∷ map work_of ws) p p known.past (later-same p)
        (λ y l. absurd l) tt (tt, known.past.all_account);
    stacked = ((refl, refl), known.stacked);
    cause = tt;
  }

  pub leaving-fine : (x : Obj) (h : ℕ) → At scenes b ws p (Leaving x h)
  leaving-fine x h whole known =
      let f : Frame = frame.Free (Leaving x h) in
      let g : Frame = frame.Free (Looping x (Removal h)) in
      let r : Row = whole.sound.rests.0 in
      let e : row_of p.rows x ≡ Some r = whole.sound.rests.1 in
      let new : row_of (detach p x).rows x ≡ Some (left_row r) = row_of-changed-same left_row p.rows x r (λ q. refl) e in
      let past_now : IsPast (row_of (detach p x).rows x) = rw new tt in
      closing-fine scenes b ws p (Leaving x h) (Looping x (Removal h)) (closes_with p.ring x) (detach p x)
      (λ items past. past-goes items f g (map work_of ws) (map work_of ws) p (detach p x) past (later-left p x r e)
      (λ y l. inl (subst (λ (z : Obj). IsPast (row_of (detach p x).rows z)) l past_now)) past.accounts past.all_account)
      (restacked f g ws (λ y k. k) (λ y k. k) known.stacked) (λ more. tt) known

  -- a destructor's refusal is told right before the call that waits is
  refused-now : (s : Scene) (x : Obj) (h v w : ℕ) → s.item ≡ Told (Refused x v) → (g : Frame) (n : Option CallStart) → Waiter g → StandsOn (frame.Free (Judged x h w)) g n
      → IsRefusedFor (scenes ++ s ∷ []) (free_reply.Refused v) g n
  refused-now s x h v w is _ n (ForFree q y) on = last-more (IsItem (Told (Refused y v))) scenes s (is ∙ ap (λ (z : Obj). Told (Refused z v)) on.0)
  refused-now s x h v w is _ n _ on = tt

  pub judged-fine : (x : Obj) (h v : ℕ) → At scenes b ws p (Judged x h v)
  judged-fine x h v whole known =
      let phase = claim-here x InRun (claims x (map work_of ws)) (row_of p.rows x) (whole.sound.open_frees x) in
      let row = running-row (row_of p.rows x) (claims x (map work_of ws)) phase in
      by-row row.0 row.1 row.2 row.3 (rw (row.1, row.4) refl)
    where
      f : Frame
      f = frame.Free (Judged x h v)

      by-row : (r : Row) → row_of p.rows x ≡ Some r → IsLive r.mark → claims x (map work_of ws) ≡ [] → is_asked p x ≡ true → FineBy scenes f b p (lifted p.ring (judge_step x h v p)) ws
      by-row r e live none run =
          let free = unaccepted (told scenes) f (map work_of ws) p x r known.past e live (λ l. l) in
          let there = unfreed (told scenes) f (map work_of ws) p x r known.past e in
          let valid : ValidAt p.next (Some r) x = rw e at (whole.sound.valid x) in
          by_test (nat_eq v 0)
          (λ t. rw t (
            (fits-accepted (told scenes) x free there, record { answered = tt; held = tt; caused = tt; started = (run, known.cause) }),
            known-told scenes (scene notes f b p (Told (Accepted x))) (with_note None (frame.Free (Leaving x h))) ws (set_hook p x 0)
                (past-accepts (told scenes) x h v (map work_of ws) p (set_hook p x 0) known.past (later-hooked p x r 0 e) valid.1 whole.sound.rests whole.sound.waiting none)
                (restacked f (frame.Free (Leaving x h)) ws (λ y k. k) (λ y k. k) known.stacked) tt,
          ))
          (λ t. rw t (
            (fits-refused (told scenes) x free there v, record { answered = tt; held = tt; caused = tt; started = tt }),
            known-told scenes (scene notes f b p (Told (Refused x v))) (with_note None (frame.Free (Ending (free_reply.Refused v)))) ws (set_mark p x mark.Quiet)
                (past-goes (told scenes ++ Told (Refused x v) ∷ []) f (frame.Free (Ending (free_reply.Refused v))) (map work_of ws) (map work_of ws) p (set_mark p x mark.Quiet)
                (past-tells (told scenes) (Told (Refused x v)) f (map work_of ws) p (λ y. refl) (λ y. refl) (λ y. refl) (λ y k. refl) known.past) (later-marked p x r mark.Quiet e live) (λ y l. absurd l) tt
                (past-tells (told scenes) (Told (Refused x v)) f (map work_of ws) p (λ y. refl) (λ y. refl) (λ y. refl) (λ y k. refl) known.past).all_account)
                (restacked f (frame.Free (Ending (free_reply.Refused v))) ws (λ y k. tt) (λ y k. k) known.stacked)
                (of-next (IsRefusedFor (scenes ++ scene notes f b p (Told (Refused x v)) ∷ []) (free_reply.Refused v)) f ws whole.sound.waiting known.stacked
                (refused-now (scene notes f b p (Told (Refused x v))) x h v v refl)),
          ))

  -- the last child is gone, and the object is removed
  removed-fine : (x : Obj) (h : ℕ) → IsConsistent (record { innermost = frame.Free (Looping x (Removal h)); below = map work_of ws; pool = p }) → Known scenes (with_note b (frame.Free (Looping x (Removal h)))) ws p
      → FineBy scenes (frame.Free (Looping x (Removal h))) b p (lifted p.ring (last_step x (Removal h) p)) ws
  removed-fine x h whole known =
      let f : Frame = frame.Free (Looping x (Removal h)) in
      let row = dying-row (row_of p.rows x) (claims x (map work_of ws)) (claim-here x InLoop (claims x (map work_of ws)) (row_of p.rows x) (whole.sound.open_frees x)) in
      let valid : ValidAt p.next (Some row.0) x = rw row.1 at (whole.sound.valid x) in
      let there = unfreed (told scenes) f (map work_of ws) p x row.0 known.past row.1 in (
        (fits-freed (told scenes) x h (there, known.past.accounts), record { answered = tt; held = tt; caused = tt; started = tt }),
        known-told scenes (scene notes f b p (Told (Freed x h))) (with_note None (frame.Free (Ending free_reply.Ok))) ws (remove p x)
            (past-frees (told scenes) x h (frame.Free (Ending free_reply.Ok)) (map work_of ws) p (remove p x) known.past (later-removed p x whole.sound.forest.distinct) valid.1
            (row_of-without-same p.rows x whole.sound.forest.distinct) tt)
            (restacked f (frame.Free (Ending free_reply.Ok)) ws (λ y k. tt) (λ y k. k) known.stacked)
            (of-next (IsRefusedFor (scenes ++ scene notes f b p (Told (Freed x h)) ∷ []) free_reply.Ok) f ws whole.sound.waiting known.stacked (λ g n waits on. tt)),
      )

  pub looping-fine : (x : Obj) (purpose : Purpose) → At scenes b ws p (Looping x purpose)
  looping-fine x purpose whole known = each (first_kid p.rows (Of x)) refl
    where
      last : (purpose : Purpose) → IsConsistent (record { innermost = frame.Free (Looping x purpose); below = map work_of ws; pool = p }) → Known scenes (with_note b (frame.Free (Looping x purpose))) ws p
          → FineBy scenes (frame.Free (Looping x purpose)) b p (lifted p.ring (last_step x purpose p)) ws
      last (Removal h) whole known = removed-fine x h whole known
      last Emptying whole known = over-fine scenes b ws p (Looping x Emptying) whole known (λ y l. l)

      -- what the loop accounts for stays so
      after : (c target : Obj) (purpose : Purpose) → Accounts (told scenes) (frame.Free (Looping x purpose)) → Accounts (told scenes ++ Told (Unreferenced c target) ∷ []) (frame.Free (Looping x purpose))
      after c target (Removal h) a = any-as-before (accepts x) (told scenes) (Told (Unreferenced c target)) refl ∙ a
      after c target Emptying a = tt

      child : (c : Obj) (o : Option Obj) → target_at p.rows c ≡ o → FineBy scenes (frame.Free (Looping x purpose)) b p (lifted p.ring (child_step x c purpose (target_at p.rows c) p)) ws
      child c None t = rw t (record {
        past = past-goes (told scenes) (frame.Free (Looping x purpose)) (frame.Free (Beginning c)) (map work_of ws) (frame.Free (FreeingChild x c (noted_owner p.rows c) purpose) ∷ map work_of ws) p p known.past (later-same p)
            (λ y l. absurd l) tt (known.past.accounts, known.past.all_account);
        stacked = (refl, restacked (frame.Free (Looping x purpose)) (frame.Free (FreeingChild x c (noted_owner p.rows c) purpose)) ws (λ y k. k) (λ y k. k) known.stacked);
        cause = tt;
      })
      child c (Some target) t = rw t (dropped-fine scenes b ws p (Looping x purpose) (Looping x purpose) c target whole known t (λ y l. l) (after c target purpose known.past.accounts) (λ y h. h) tt)

      each : (o : Option Obj) → first_kid p.rows (Of x) ≡ o → FineBy scenes (frame.Free (Looping x purpose)) b p (lifted p.ring (loop_step x purpose (first_kid p.rows (Of x)) p)) ws
      each None e = rw e (last purpose whole known)
      each (Some c) e = rw e (child c (target_at p.rows c) refl)

  -- a child that wasn't freed is handed on
  handed-fine : (x c : Obj) (noted : Option Owner) (purpose : Purpose) (a : FreeReply) → IsConsistent (record { innermost = frame.Free (AfterChild x c noted purpose a); below = map work_of ws; pool = p })
      → Known scenes (with_note b (frame.Free (AfterChild x c noted purpose a))) ws p → FineBy scenes (frame.Free (AfterChild x c noted purpose a)) b p (lifted p.ring (hand_on_step x c noted purpose p)) ws
  handed-fine x c noted purpose a whole known = by_test (is_below (owner_of p.rows c) (Of x)) (λ t. rw t (moves t)) (λ t. rw t stays)
    where
      f : Frame
      f = frame.Free (AfterChild x c noted purpose a)

      g : Frame
      g = frame.Free (Looping x purpose)

      o : Owner
      o = heir p.rows x c noted

      under : Stacked g ws
      under = restacked f g ws (λ y k. k) (λ y k. k) known.stacked

      stays : FineBy scenes f b p (Do.Go g p) ws
      stays = record {
        past = past-goes (told scenes) f g (map work_of ws) (map work_of ws) p p known.past (later-same p) (λ y l. absurd l) known.past.accounts known.past.all_account;
        stacked = under;
        cause = tt;
      }

      there : (y : Obj) → is_row p.rows y ≡ true → list_any (frees y) (told scenes) ≡ false
      there y e = by-row (row_of p.rows y) refl
        where
          by-row : (q : Option Row) → row_of p.rows y ≡ q → list_any (frees y) (told scenes) ≡ false
          by-row None h = let bad : false ≡ true = rw h at e in cc
          by-row (Some r) h = unfreed (told scenes) f (map work_of ws) p y r known.past h

      moves : is_below (owner_of p.rows c) (Of x) ≡ true → FineBy scenes f b p (Do.Emit (Told (Moved c o)) g (place p o c)) ws
      moves t =
          let may = heir-placed x c noted f (map work_of ws) p whole.sound t in
          let child : is_row p.rows c ≡ true = rw may.is refl in
          let past = past-tells (told scenes) (Told (Moved c o)) f (map work_of ws) p (λ y. refl) (λ y. refl) (λ y. refl) (λ y k. refl) known.past in (
            (fits-moved (told scenes) p.rows c o there child may.there, record { answered = tt; held = tt; caused = tt; started = tt }),
            known-told scenes (scene notes f b p (Told (Moved c o))) (with_note None g) ws (place p o c)
                (past-goes (told scenes ++ Told (Moved c o) ∷ []) f g (map work_of ws) (map work_of ws) p (place p o c) past (later-placed p o c may.row may.is) (λ y l. absurd l) past.accounts past.all_account)
                under tt,
          )

  pub tried-fine : (x c : Obj) (noted : Option Owner) (purpose : Purpose) (a : FreeReply) → At scenes b ws p (AfterChild x c noted purpose a)
  tried-fine x c noted purpose free_reply.Ok whole known = record {
    past = past-goes (told scenes) (frame.Free (AfterChild x c noted purpose free_reply.Ok)) (frame.Free (Looping x purpose)) (map work_of ws) (map work_of ws) p p known.past (later-same p) (λ y l. absurd l)
        known.past.accounts known.past.all_account;
    stacked = restacked (frame.Free (AfterChild x c noted purpose free_reply.Ok)) (frame.Free (Looping x purpose)) ws (λ y k. k) (λ y k. k) known.stacked;
    cause = tt;
  }
  tried-fine x c noted purpose free_reply.Held whole known = handed-fine x c noted purpose free_reply.Held whole known
  tried-fine x c noted purpose free_reply.Running whole known = handed-fine x c noted purpose free_reply.Running whole known
  tried-fine x c noted purpose (free_reply.Refused v) whole known = handed-fine x c noted purpose (free_reply.Refused v) whole known
