-- The steps of a question to the outside tell what is fine.
use Rattle.std.proofs.Common.{◌≡◌, List, [], ◌∷◌, ◌++◌, Option, Some, None, false, refl, sym, subst, map}
use Rattle.step_machine.specs.Machine.{Move as Do}
use Rattle.step_machine.specs.Noted.{scene, with_note, noted_work}
use Rattle.tree_specs.specs.declared.object.Obj.{Obj}
use Rattle.tree_specs.specs.declared.question.Ask.{Ask}
use Rattle.tree_specs.specs.declared.question.Ask.TheVariants as ask
use Rattle.tree_specs.specs.declared.question.Input.{Input}
use Rattle.tree_specs.specs.declared.reply.Reply.{Reply}
use Rattle.tree_specs.specs.declared.reply.Reply.TheVariants.{Number}
use Rattle.tree_specs.specs.declared.frame.Frame.{Frame}
use Rattle.tree_specs.specs.declared.frame.Frame.TheVariants as frame
use Rattle.tree_specs.specs.declared.frame.OutsideFrame.{OutsideFrame}
use Rattle.tree_specs.specs.declared.frame.OutsideFrame.TheVariants.{Reaching, Opening, Hearing}
use Rattle.tree_specs.specs.declared.frame.Answer.TheVariants as answer
use Rattle.tree_specs.specs.Tree.Pool.{Pool, open_descriptor}
use Rattle.tree_specs.specs.Rules.Items.Item.{Asked}
use Rattle.tree_specs.specs.Rules.Sequence.{CallStart, Scene}
use Rattle.tree_specs.specs.Machine.Table.{notes, taken, outside_step, opening_one, hearing_one}
use Rattle.tree_specs.specs.Promises.Orderly.{asks_hook}
use Rattle.tree_specs.specs.Invariants.Consistent.{IsConsistent}
use Rattle.tree_specs.proofs.Calls.Checks.{Reaches, IsOpened, IsTold, IsAnswered, reached-by}
use Rattle.tree_specs.proofs.Calls.Plans.{IsOutside}
use Rattle.tree_specs.proofs.Invariants.Waiters.{Waiter, ForRun, ForTurn, ForRequest}
use Rattle.tree_specs.proofs.Promises.Answering.{IsNoRefusal, given-answers}
use Rattle.tree_specs.proofs.Promises.Later.{Later, later-same, later-waiting}
use Rattle.tree_specs.proofs.Promises.Past.{Past, past-goes, past-tells}
use Rattle.tree_specs.proofs.Promises.Causes.{NotedWork, told, StandsOn, Cause}
use Rattle.tree_specs.proofs.Promises.Fitting.{fits-question}
use Rattle.tree_specs.proofs.Promises.Fine.{work_of, Known, FineBy, restacked, of-next, AnswersTo, resumed, known-told, taken-noted, just-now}

-- the outside is no destructor
outside-no-hook : (q : Ask) → IsOutside q → (y : Obj) → asks_hook y (Asked q) ≡ false
outside-no-hook (ask.Routine m) h y = absurd h
outside-no-hook _ h y = refl

module _ (scenes : List Scene) (b : Option CallStart) (ws : List NotedWork) (p : Pool) where
  abbrev AtOutside : OutsideFrame → Type 0
  AtOutside f = IsConsistent (record { innermost = frame.Outside f; below = map work_of ws; pool = p }) → Known scenes (with_note b (frame.Outside f)) ws p
      → FineBy scenes (frame.Outside f) b p (outside_step f p) ws

  reaching-fine : (q : Ask) → AtOutside (Reaching q)
  reaching-fine q whole known = ((fits-question (told scenes) q (outside-no-hook q known.cause), record { answered = tt; held = tt; caused = tt; started = tt }), next)
    where
      f : Frame
      f = frame.Outside (Reaching q)

      s : Scene
      s = scene notes f b p (Asked q)

      past : Past (told scenes ++ Asked q ∷ []) f (map work_of ws) p
      past = past-tells (told scenes) (Asked q) f (map work_of ws) p (λ x. refl) (λ x. refl) (λ x. refl) (λ x k. refl) known.past

      after : (g : OutsideFrame) → Cause (scenes ++ s ∷ []) (frame.Outside g) None ws p → Known (scenes ++ s ∷ []) (with_note None (frame.Outside g)) ws p
      after g cause = known-told scenes s (with_note None (frame.Outside g)) ws p
          (past-goes (told scenes ++ Asked q ∷ []) f (frame.Outside g) (map work_of ws) (map work_of ws) p p past (later-same p) (λ x l. absurd l) tt past.all_account)
          (restacked f (frame.Outside g) ws (λ w h. h) (λ w h. h) known.stacked) cause

      leads : (i : Input) (g : Frame) → Reaches p q opening_one hearing_one i g → Known (scenes ++ s ∷ []) (with_note None g) ws p
      leads i g (IsOpened fd given number closed is) = subst (λ (z : Frame). Known (scenes ++ s ∷ []) (with_note None z) ws p) (sym is) (after (Opening fd) tt)
      leads i g (IsTold now given time is) = subst (λ (z : Frame). Known (scenes ++ s ∷ []) (with_note None z) ws p) (sym is) (after (Hearing (Number now)) tt)
      leads i g (IsAnswered r given is) = subst (λ (z : Frame). Known (scenes ++ s ∷ []) (with_note None z) ws p) (sym is) (after (Hearing r) (given-answers q i r given))

      next : (i : Input) (g : NotedWork) → noted_work None (taken f p i) ≡ Some g → Known (scenes ++ s ∷ []) g ws p
      next i g e =
          let t = taken-noted None (taken f p i) g e in
          subst (λ (w : NotedWork). Known (scenes ++ s ∷ []) w ws p) (sym t.2) (leads i t.0 (reached-by p q opening_one hearing_one i t.0 t.1))

  -- the call that waits gets the reply, over a later pool
  heard-fine : (f : OutsideFrame) (q : Pool) (r : Reply) → IsNoRefusal r → Later p q → IsConsistent (record { innermost = frame.Outside f; below = map work_of ws; pool = p })
      → Known scenes (with_note b (frame.Outside f)) ws p → FineBy scenes (frame.Outside f) b q (Do.Done (answer.Heard r) q) ws
  heard-fine f q r none later whole known =
      resumed scenes (frame.Outside f) b ws q (answer.Heard r)
      (past-goes (told scenes) (frame.Outside f) (frame.Outside f) (map work_of ws) (map work_of ws) p q known.past later (λ y l. absurd l) tt known.past.all_account)
      (λ y l. l) known.stacked whole.sound.waiting
      (of-next (AnswersTo scenes (answer.Heard r)) (frame.Outside f) ws whole.sound.waiting known.stacked answers)
    where
      answers : (g : Frame) (n : Option CallStart) → Waiter g → StandsOn (frame.Outside f) g n → AnswersTo scenes (answer.Heard r) g n
      answers _ n (ForRun x h) on = absurd on
      answers _ n (ForTurn a) on = just-now (told scenes) r none
      answers _ n (ForRequest a) on = just-now (told scenes) r none
      answers _ n _ on = tt

  pub outside-fine : (f : OutsideFrame) → AtOutside f
  outside-fine (Reaching q) whole known = reaching-fine q whole known
  outside-fine (Opening fd) whole known = heard-fine (Opening fd) (open_descriptor p fd) (Number fd) tt (later-waiting p (open_descriptor p fd) refl refl refl) whole known
  outside-fine (Hearing r) whole known = heard-fine (Hearing r) p r known.cause (later-same p) whole known
