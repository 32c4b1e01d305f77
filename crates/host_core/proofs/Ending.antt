-- A work that is over, and who waits for it.
use Rattle.std.proofs.Common.{◌≡◌, ℕ, List, [], ◌∷◌, Option, Some, true, refl, sym, ◌∙◌, inr}
use Rattle.std.specs.Prelude.{slice_get}
use Rattle.tree_specs.specs.declared.frame.CallFrame.TheVariants.{Returning}
use Rattle.tree_specs.specs.declared.frame.Frame.{Frame}
use Rattle.tree_specs.specs.declared.frame.Frame.TheVariants as frame
use Rattle.tree_specs.specs.declared.frame.FreeFrame.{FreeFrame}
use Rattle.tree_specs.specs.declared.frame.FreeFrame.TheVariants.{Hooked, Preparing, Draining}
use Rattle.tree_specs.specs.declared.frame.OutsideFrame.{OutsideFrame}
use Rattle.tree_specs.specs.declared.frame.RequestFrame.TheVariants.{Over}
use Rattle.tree_specs.specs.declared.frame.TurnFrame.{TurnFrame}
use Rattle.tree_specs.specs.declared.frame.TurnFrame.TheVariants.{Handling, Clearing, Serving, Parting}
use Rattle.tree_specs.specs.declared.free_step.FreeReply.{FreeReply}
use Rattle.tree_specs.specs.declared.reply.Reply.{Reply}
use Rattle.tree_specs.specs.declared.object.Obj.{Obj}
use Rattle.tree_specs.specs.Invariants.Sound.{Drains, IsWaiting, AllWait, footing}
use Rattle.tree_specs.specs.Invariants.Noted.{AllCalm}
use Rattle.tree_specs.specs.Invariants.Consistent.{IsCaller, IsFree, IsRun, IsWork, MayStandOn, IsStacked, IsConsistent}
use Rattle.tree_specs.specs.declared.question.Ask.{Ask}
use Rattle.destructors.specs.Frees.{awaits_run}
use Rattle.destructors.proofs.Hosting.{AwaitsRun}
use Rattle.destructors.specs.Engine.{IsAsked, IsPreparing}
use Rattle.object_pool.specs.Objects.{Objects, MayBeginFree}
use Rattle.host_core.specs.declared.answer.Answer.{Answer}
use Rattle.host_core.specs.declared.answer.Answer.TheVariants.{Freed, Returned, Turned, Heard}
use Rattle.host_core.specs.declared.short_reply.ShortReply.{ShortReply}
use Rattle.host_core.specs.declared.waiting.Waiting.{Waiting}
use Rattle.host_core.specs.declared.waiting.Waiting.TheVariants.{Freeing, Awaiting, Turning, Requesting, Turn, Work as WorkOf}
use Rattle.host_core.specs.declared.work.Work.{Work}
use Rattle.host_core.specs.declared.work.Work.TheVariants.{Called, Releasing, Dropping}
use Rattle.host_core.specs.Stacks.{work_frame, standing, Fits, other_view}
use Rattle.host_core.specs.Going.{AnswersTo, Answers}
use Rattle.host_core.proofs.Hosting.{frees-standing, turns-last, returned-awaits, worked-awaits}

-- below a turn no free is open, so that one may begin
below-turn : (f : Frame) (t : TurnFrame) (fs : List FreeFrame) (ws : List Waiting) (o : Objects) → o.works ≡ fs → Fits fs ws → IsStacked f (frame.Turn t ∷ standing fs ws) → AllCalm (frame.Turn t ∷ standing fs ws) → MayBeginFree o
below-turn f t fs ws o is e s c =
    let none : o.works ≡ [] = is ∙ sym (frees-standing fs ws e) ∙ (turns-last f (frame.Turn t ∷ standing fs ws) s c).0 in
    inr (rw none tt)

-- the first of the works that wait is the one that waits for what is over
first-answers : (f : Frame) (a : Answer) (o : Objects) (fs : List FreeFrame) → (IsCaller f → ⊥)
    → ((w : Waiting) (ws : List Waiting) → Fits fs (w ∷ ws) → AllWait (standing fs (w ∷ ws)) → IsStacked f (standing fs (w ∷ ws)) → AllCalm (standing fs (w ∷ ws)) → AnswersTo a w o)
    → (ws : List Waiting) → Fits fs ws → AllWait (standing fs ws) → IsStacked f (standing fs ws) → AllCalm (standing fs ws) → Answers a ws o
first-answers f a o fs c each [] e w s calm = absurd (c s)
first-answers f a o fs c each (v ∷ ws) e w s calm = record { first = v; others = ws; are = refl; answers = each v ws e w s calm }

-- and where the open frees wait, this holds of the first of them
first-frame : (f : Frame) (P : Option FreeFrame → Type 0) → ((g : FreeFrame) (gs : List Frame) → IsStacked f (frame.Free g ∷ gs) → P (Some g)) → (fs : List FreeFrame) (ws : List Waiting) → Fits fs (Freeing ∷ ws) → IsStacked f (standing fs (Freeing ∷ ws)) → P (slice_get fs 0)
first-frame f P each [] ws e s = absurd e.0
first-frame f P each (g ∷ fs) ws e s = each g _ s

-- ---- a free

free-on : (f g : FreeFrame) (gs : List Frame) → awaits_run g ≡ true → IsStacked (frame.Free f) (frame.Free g ∷ gs) → ⊥
free-on f (Hooked x h) gs w s = s.0
free-on f (Preparing x) gs w s = s.0
free-on f (Draining x) gs w s = s.0
free-on f _ gs w s = cc

freed-turn : (f : FreeFrame) (t : TurnFrame) (a : FreeReply) (o : Objects) (gs : List Frame) → AllWait (frame.Turn t ∷ gs) → IsStacked (frame.Free f) (frame.Turn t ∷ gs) → MayBeginFree o → AnswersTo (Freed a) (Turn t) o
freed-turn f (Clearing x) a o gs w s may = may
freed-turn f (Parting x v) a o gs w s may = may
freed-turn f (Handling what x handler occasion) a o gs w s may = absurd s.0
freed-turn f (Serving x) a o gs w s may = absurd s.0
freed-turn f _ a o gs w s may = absurd w.0

-- an entry is freed for the innermost of the frees that wait
drained-first : (q : Obj) (fs : List FreeFrame) (ws : List Waiting) → Fits fs ws → Drains q (footing (standing fs ws)) → IsPreparing (slice_get fs 0)
drained-first q fs [] e d = absurd d
drained-first q [] (Freeing ∷ ws) e d = absurd e.0
drained-first q (Draining x ∷ fs) (Freeing ∷ ws) e d = tt
drained-first q (f ∷ fs) (Freeing ∷ ws) e d = absurd d
drained-first q fs (Turn (Clearing x) ∷ ws) e d = absurd d
drained-first q fs (Turn (Serving x) ∷ ws) e d = absurd d
drained-first q fs (Turn (Parting x v) ∷ ws) e d = absurd d
drained-first q fs (WorkOf (Releasing child) ∷ ws) e d = absurd d
drained-first q fs (WorkOf (Dropping queue entry) ∷ ws) e d = absurd d
drained-first q fs (Turn t ∷ ws) e d = absurd d
drained-first q fs (WorkOf k ∷ ws) e d = absurd d
drained-first q fs (w ∷ ws) e d = absurd d

freed-work : (f : FreeFrame) (k : Work) (a : FreeReply) (o : Objects) (ws : List Waiting) → Fits o.works ws → AllWait (frame.Request (work_frame k) ∷ standing o.works ws) → IsStacked (frame.Free f) (frame.Request (work_frame k) ∷ standing o.works ws) → AnswersTo (Freed a) (WorkOf k) o
freed-work f (Releasing child) a o ws e w s = tt
freed-work f (Dropping queue entry) a o ws e w s = drained-first queue o.works ws e w.0
freed-work f (Called what x handler errand) a o ws e w s = absurd s.0
freed-work f _ a o ws e w s = absurd w.0

-- what waits for a free that is over, where the next free waits for no free
pub freed-answers : (f : FreeFrame) (fs : List FreeFrame) (ws : List Waiting) (a : FreeReply) (o : Objects) → o.works ≡ fs → AwaitsRun fs → Fits fs ws → AllWait (standing fs ws) → IsStacked (frame.Free f) (standing fs ws) → AllCalm (standing fs ws) → Answers (Freed a) ws o
freed-answers f fs ws a o is r = first-answers (frame.Free f) (Freed a) o fs (λ z. z) each ws
  where
    none-first : (gs : List FreeFrame) (vs : List Waiting) → AwaitsRun gs → Fits gs (Freeing ∷ vs) → IsStacked (frame.Free f) (standing gs (Freeing ∷ vs)) → ⊥
    none-first [] vs r e s = e.0
    none-first (g ∷ gs) vs r e s = free-on f g _ r s

    each : (v : Waiting) (vs : List Waiting) → Fits fs (v ∷ vs) → AllWait (standing fs (v ∷ vs)) → IsStacked (frame.Free f) (standing fs (v ∷ vs)) → AllCalm (standing fs (v ∷ vs)) → AnswersTo (Freed a) v o
    each Freeing vs e w s c = absurd (none-first fs vs r e s)
    each (Awaiting q x) vs e w s c = tt
    each (Turn t) vs e w s c = freed-turn f t a o (standing fs vs) w s (below-turn (frame.Free f) t fs vs o is e s c)
    each (WorkOf k) vs e w s c = freed-work f k a o vs (rw is e) (rw is w) (rw is s)
    each _ vs e w s c = absurd s.0

-- ---- a routine

returned-turn : (v : ℕ) (t : TurnFrame) (o : Objects) (gs : List Frame) → o.ready ≡ true → AllWait (frame.Turn t ∷ gs) → IsStacked (frame.Call (Returning v)) (frame.Turn t ∷ gs) → AnswersTo (Returned v) (Turn t) o
returned-turn v (Handling what x handler occasion) o gs ready w s = ready
returned-turn v (Clearing x) o gs ready w s = absurd s.0
returned-turn v (Serving x) o gs ready w s = absurd s.0
returned-turn v (Parting x r) o gs ready w s = absurd s.0
returned-turn v _ o gs ready w s = absurd w.0

returned-work : (v : ℕ) (k : Work) (o : Objects) (gs : List Frame) → o.ready ≡ true → AllWait (frame.Request (work_frame k) ∷ gs) → IsStacked (frame.Call (Returning v)) (frame.Request (work_frame k) ∷ gs) → AnswersTo (Returned v) (WorkOf k) o
returned-work v (Called what x handler errand) o gs ready w s = ready
returned-work v (Releasing child) o gs ready w s = absurd s.0
returned-work v (Dropping queue entry) o gs ready w s = absurd s.0
returned-work v _ o gs ready w s = absurd w.0

asked-free : (v : ℕ) (g : FreeFrame) (gs : List Frame) → IsStacked (frame.Call (Returning v)) (frame.Free g ∷ gs) → IsAsked (Some g)
asked-free v (Hooked x h) gs s = tt
asked-free v _ gs s = absurd s.0

-- what waits for a routine that has returned
pub returned-answers : (v : ℕ) (ws : List Waiting) (o : Objects) → o.ready ≡ true → Fits o.works ws → IsConsistent (other_view (frame.Call (Returning v)) o.works ws o.pool) → Answers (Returned v) ws o
returned-answers v ws o ready e h = first-answers (frame.Call (Returning v)) (Returned v) o o.works (λ z. z) each ws e h.sound.waiting h.seated h.calm.1
  where
    each : (u : Waiting) (vs : List Waiting) → Fits o.works (u ∷ vs) → AllWait (standing o.works (u ∷ vs)) → IsStacked (frame.Call (Returning v)) (standing o.works (u ∷ vs)) → AllCalm (standing o.works (u ∷ vs)) → AnswersTo (Returned v) u o
    each Freeing vs f w s c = (first-frame (frame.Call (Returning v)) IsAsked (asked-free v) o.works vs f s, returned-awaits v o.works (standing o.works ws) o.pool h (frees-standing o.works ws e))
    each (Turn t) vs f w s c = returned-turn v t o (standing o.works vs) ready w s
    each (WorkOf k) vs f w s c = returned-work v k o (standing o.works vs) ready w s
    each _ vs f w s c = absurd s.0

-- ---- a turn, and the outside

-- only a call waits for what is a turn to it
pub turned-call : (f : Frame) (a : Answer) (o : Objects) → (IsFree f → ⊥) → (IsRun f → ⊥) → (IsWork f → ⊥) → (IsCaller f → ⊥) → ((q : Ask) → AnswersTo a (Turning q) o) → (fs : List FreeFrame) (ws : List Waiting) → Fits fs ws → AllWait (standing fs ws) → IsStacked f (standing fs ws) → AllCalm (standing fs ws) → Answers a ws o
turned-call f a o no_free no_run no_work no_caller answers fs = first-answers f a o fs no_caller each
  where
    none-first : (gs : List FreeFrame) (vs : List Waiting) → Fits gs (Freeing ∷ vs) → IsStacked f (standing gs (Freeing ∷ vs)) → ⊥
    none-first [] vs e s = e.0
    none-first (Hooked x h ∷ gs) vs e s = no_run s.0
    none-first (Preparing x ∷ gs) vs e s = no_work s.0
    none-first (Draining x ∷ gs) vs e s = no_work s.0
    none-first (g ∷ gs) vs e s = no_free s.0

    turns : (k : TurnFrame) (gs : List Frame) → IsWaiting (frame.Turn k) gs → MayStandOn f (frame.Turn k ∷ []) → ⊥
    turns (Handling what x handler occasion) gs w s = no_run s
    turns (Clearing x) gs w s = no_free s
    turns (Serving x) gs w s = no_work s
    turns (Parting x v) gs w s = no_free s
    turns _ gs w s = w

    works : (k : Work) (gs : List Frame) → IsWaiting (frame.Request (work_frame k)) gs → MayStandOn f (frame.Request (work_frame k) ∷ []) → ⊥
    works (Called what x handler errand) gs w s = no_run s
    works (Releasing child) gs w s = no_free s
    works (Dropping queue entry) gs w s = no_free s
    works _ gs w s = w

    each : (v : Waiting) (vs : List Waiting) → Fits fs (v ∷ vs) → AllWait (standing fs (v ∷ vs)) → IsStacked f (standing fs (v ∷ vs)) → AllCalm (standing fs (v ∷ vs)) → AnswersTo a v o
    each Freeing vs e w s c = absurd (none-first fs vs e s)
    each (Awaiting q x) vs e w s c = absurd (no_free s.0)
    each (Turning q) vs e w s c = answers q
    each (Requesting q) vs e w s c = absurd (no_work s.0)
    each (Turn k) vs e w s c = absurd (turns k (standing fs vs) w.0 s.0)
    each (WorkOf k) vs e w s c = absurd (works k (standing fs vs) w.0 s.0)

pub turned-answers : (t : TurnFrame) (v : ℕ) (fs : List FreeFrame) (ws : List Waiting) (o : Objects) → Fits fs ws → AllWait (standing fs ws) → IsStacked (frame.Turn t) (standing fs ws) → AllCalm (standing fs ws) → Answers (Turned v) ws o
turned-answers t v fs ws o e w s c = turned-call (frame.Turn t) (Turned v) o (λ z. z) (λ z. z) (λ z. z) (λ z. z) (λ q. tt) fs ws e w s c

pub heard-answers : (f : OutsideFrame) (r : ShortReply) (fs : List FreeFrame) (ws : List Waiting) (o : Objects) → Fits fs ws → AllWait (standing fs ws) → IsStacked (frame.Outside f) (standing fs ws) → AllCalm (standing fs ws) → Answers (Heard r) ws o
heard-answers f r fs ws o e w s c = turned-call (frame.Outside f) (Heard r) o (λ z. z) (λ z. z) (λ z. z) (λ z. z) (λ q. tt) fs ws e w s c

-- ---- the work of a request

worked-turn : (r : Reply) (b : ShortReply) (t : TurnFrame) (o : Objects) (gs : List Frame) → AllWait (frame.Turn t ∷ gs) → IsStacked (frame.Request (Over r)) (frame.Turn t ∷ gs) → MayBeginFree o → AnswersTo (Heard b) (Turn t) o
worked-turn r b (Serving x) o gs w s may = may
worked-turn r b (Handling what x handler occasion) o gs w s may = absurd s.0
worked-turn r b (Clearing x) o gs w s may = absurd s.0
worked-turn r b (Parting x v) o gs w s may = absurd s.0
worked-turn r b _ o gs w s may = absurd w.0

no-work : (r : Reply) (k : Work) (gs : List Frame) → AllWait (frame.Request (work_frame k) ∷ gs) → IsStacked (frame.Request (Over r)) (frame.Request (work_frame k) ∷ gs) → ⊥
no-work r (Called what x handler errand) gs w s = s.0
no-work r (Releasing child) gs w s = s.0
no-work r (Dropping queue entry) gs w s = s.0
no-work r _ gs w s = w.0

prepared-free : (r : Reply) (g : FreeFrame) (gs : List Frame) → IsStacked (frame.Request (Over r)) (frame.Free g ∷ gs) → IsPreparing (Some g)
prepared-free r (Preparing x) gs s = tt
prepared-free r (Draining x) gs s = tt
prepared-free r _ gs s = absurd s.0

pub worked-answers : (r : Reply) (b : ShortReply) (ws : List Waiting) (o : Objects) → Fits o.works ws → IsConsistent (other_view (frame.Request (Over r)) o.works ws o.pool) → Answers (Heard b) ws o
worked-answers r b ws o e h = first-answers (frame.Request (Over r)) (Heard b) o o.works (λ z. z) each ws e h.sound.waiting h.seated h.calm.1
  where
    each : (u : Waiting) (vs : List Waiting) → Fits o.works (u ∷ vs) → AllWait (standing o.works (u ∷ vs)) → IsStacked (frame.Request (Over r)) (standing o.works (u ∷ vs)) → AllCalm (standing o.works (u ∷ vs)) → AnswersTo (Heard b) u o
    each Freeing vs f w s c = (first-frame (frame.Request (Over r)) IsPreparing (prepared-free r) o.works vs f s, worked-awaits r o.works (standing o.works ws) o.pool h (frees-standing o.works ws e))
    each (Requesting q) vs f w s c = tt
    each (Turn t) vs f w s c = worked-turn r b t o (standing o.works vs) w s (below-turn (frame.Request (Over r)) t o.works vs o refl f s c)
    each (WorkOf k) vs f w s c = absurd (no-work r k (standing o.works vs) w s)
    each _ vs f w s c = absurd s.0
