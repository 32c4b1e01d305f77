-- The steps of the innermost free, among the works of a host.
use Rattle.std.proofs.Common.{◌≡◌, ℕ, List, [], ◌∷◌, Option, Some, None, is_some, true, false, refl, sym, ◌∙◌, ap, subst}
use Rattle.step_machine.specs.Machine.{Move as Do}
use Rattle.tree_specs.specs.declared.event.Event.{Event}
use Rattle.tree_specs.specs.declared.frame.Answer.TheVariants.{Freed}
use Rattle.tree_specs.specs.declared.frame.CallFrame.TheVariants.{Asking}
use Rattle.tree_specs.specs.declared.frame.Frame.{Frame}
use Rattle.tree_specs.specs.declared.frame.Frame.TheVariants as frame
use Rattle.tree_specs.specs.declared.frame.FreeFrame.{FreeFrame}
use Rattle.tree_specs.specs.declared.frame.FreeFrame.TheVariants.{Hooked, Preparing, Draining}
use Rattle.tree_specs.specs.declared.free_step.FreeReply.{FreeReply}
use Rattle.tree_specs.specs.declared.free_step.FreeStep.{FreeStep}
use Rattle.tree_specs.specs.declared.free_step.FreeStep.TheVariants.{Ask as AskOf, Prepare, Drain, Done}
use Rattle.tree_specs.specs.declared.object.Obj.{Obj}
use Rattle.tree_specs.specs.declared.question.Ask.TheVariants.{Routine}
use Rattle.tree_specs.specs.declared.watch.Watch.{Watch}
use Rattle.tree_specs.specs.Tree.Pool.{Pool, row_of}
use Rattle.tree_specs.specs.Rules.Answers.{hook_moment}
use Rattle.tree_specs.specs.Invariants.Consistent.{IsConsistent}
use Rattle.tree_specs.specs.Invariants.Sound.{HasHook}
use Rattle.tree_specs.specs.Machine.FreeTable.{FreeMove, free_step, free_resume}
use Rattle.tree_specs.specs.Machine.Table.{announced, event_of, lifted, run_for}
use Rattle.tree_specs.specs.Machine.View.{View}
use Rattle.tree_specs.proofs.Tree.Numbered.{by_test}
use Rattle.destructors.specs.Engine.{IsPreparing}
use Rattle.destructors.specs.Frees.{OpenFrees, awaits_run, answered, moves, is_event, speaking, Silently, Still, On, Steps}
use Rattle.destructors.specs.Frees.{moved as free_moved}
use Rattle.destructors.specs.Runs.{IsNews, AsksFor}
use Rattle.destructors.proofs.FreeMoves.{IsMoveOf, is_move}
use Rattle.destructors.proofs.Hosting.{resumed-free}
use Rattle.destructors.proofs.Settling.{run-speaks, still, asks-run, asks-waiting}
use Rattle.host_core.specs.declared.waiting.Waiting.{Waiting}
use Rattle.host_core.specs.declared.waiting.Waiting.TheVariants.{Freeing}
use Rattle.host_core.specs.Stacks.{standing, below_free, free_view, other_view, no_frame, freeing_view}
use Rattle.host_core.specs.Hosts.{moved, next_of, speaks, speaking_view, TellsSameStory, StepsSilently}
use Rattle.host_core.proofs.StepsSilently.{onward, stays, along-then, onward-along, AfterEvent, after-event, event-along}

-- ---- where a step leads

-- what a free waits for runs above it
abbrev pub run_view : OpenFrees → List Waiting → View
run_view s ws = by s.works
  where
    by : List FreeFrame → View
    by [] = other_view no_frame [] ws s.pool
    by (f ∷ fs) = other_view (run_for f) (f ∷ fs) (Freeing ∷ ws) s.pool

-- the free is over, and its answer goes to what waits for it
abbrev pub over_view : FreeReply → OpenFrees → List Waiting → View
over_view a s ws = (moved (Do.Done (Freed a) s.pool) (standing s.works ws)).1

abbrev told_view : FreeStep → OpenFrees → List Waiting → View
told_view (AskOf x) s ws = run_view s ws
told_view (Prepare x) s ws = run_view s ws
told_view (Drain x) s ws = run_view s ws
told_view (Done a) s ws = over_view a s ws
told_view t s ws = freeing_view s.works ws s.pool

abbrev led : Option FreeStep × OpenFrees → List Waiting → View
led (None, s) ws = freeing_view s.works ws s.pool
led (Some t, s) ws = told_view t s ws

news-view : (t : FreeStep) (s : OpenFrees) (ws : List Waiting) → IsNews t → told_view t s ws ≡ freeing_view s.works ws s.pool
news-view (AskOf x) s ws n = absurd n
news-view (Prepare x) s ws n = absurd n
news-view (Drain x) s ws n = absurd n
news-view (Done a) s ws n = absurd n
news-view _ s ws n = refl

asked-view : (t : FreeStep) (f : FreeFrame) (s : OpenFrees) (ws : List Waiting) → AsksFor t f → told_view t s ws ≡ run_view s ws
asked-view (AskOf x) f s ws a = refl
asked-view (Prepare x) f s ws a = refl
asked-view (Drain x) f s ws a = refl
asked-view t f s ws a = absurd a

answered-leads : (a : FreeReply) (q : Pool) (fs : List FreeFrame) (ws : List Waiting) → (moved (Do.Done (Freed a) q) (below_free fs ws)).1 ≡ led (answered a q fs) ws
answered-leads a q [] ws = refl
answered-leads a q (g ∷ fs) ws = by_test (awaits_run g)
    (λ t. rw t refl)
    (λ t. rw t (ap (λ (z : FreeFrame). free_view z fs ws q) (resumed-free g a t)))

leads-by : (f : FreeFrame) (fs : List FreeFrame) (ws : List Waiting) (p : Pool) (m : FreeMove) → IsMoveOf f p m → (moved (lifted p.ring m) (below_free fs ws)).1 ≡ led (free_moved m fs) ws
leads-by f fs ws p (Do.Done a q) of = answered-leads a q fs ws
leads-by f fs ws p (Do.Go g q) of = refl
leads-by f fs ws p (Do.Emit t g q) of = each (event_of p.ring t) ∙ sym (news-view t (record { works = g ∷ fs; pool = q }) ws of)
  where
    each : (o : Option Event) → (moved (announced o g q) (below_free fs ws)).1 ≡ free_view g fs ws q
    each None = refl
    each (Some e) = refl
leads-by f fs ws p (Do.Wait t g q) of = sym (asked-view t f (record { works = g ∷ fs; pool = q }) ws of.2)
leads-by f fs ws p (Do.Call g h q) of = rw of.1 refl

-- the step of a host leads where the move of the open frees does
leads : (f : FreeFrame) (fs : List FreeFrame) (ws : List Waiting) (p : Pool) → (next_of (free_view f fs ws p)).1 ≡ led (moves (f ∷ fs) p) ws
leads f fs ws p = leads-by f fs ws p (free_step f p) (is_move f p)

-- ---- what a step tells

-- by what is watched
abbrev pub events : List Watch → Option FreeStep → Option Event
events ring None = None
events ring (Some t) = event_of ring t

no-event-asked : (ring : List Watch) (t : FreeStep) (f : FreeFrame) → AsksFor t f → event_of ring t ≡ None
no-event-asked ring (AskOf x) f a = refl
no-event-asked ring (Prepare x) f a = refl
no-event-asked ring (Drain x) f a = refl
no-event-asked ring t f a = absurd a

answered-events : (ring : List Watch) (a : FreeReply) (p : Pool) (fs : List FreeFrame) (below : List Frame) → (moved (Do.Done (Freed a) p) below).0 ≡ events ring (answered a p fs).0
answered-events ring a p fs below = silent below ∙ none fs
  where
    none : (fs : List FreeFrame) → None ≡ events ring (answered a p fs).0
    none [] = refl
    none (g ∷ fs) = by_test (awaits_run g) (λ t. rw t refl) (λ t. rw t refl)

    silent : (below : List Frame) → (moved (Do.Done (Freed a) p) below).0 ≡ None
    silent [] = refl
    silent (g ∷ gs) = refl

told-events : (f : FreeFrame) (p : Pool) (m : FreeMove) (fs : List FreeFrame) (below : List Frame) → IsMoveOf f p m → (moved (lifted p.ring m) below).0 ≡ events p.ring (free_moved m fs).0
told-events f p (Do.Done a q) fs below of = answered-events p.ring a q fs below
told-events f p (Do.Go g q) fs below of = refl
told-events f p (Do.Emit t g q) fs below of = each (event_of p.ring t)
  where
    each : (o : Option Event) → (moved (announced o g q) below).0 ≡ o
    each None = refl
    each (Some e) = refl
told-events f p (Do.Wait t g q) fs below of = sym (no-event-asked p.ring t f of.2)
told-events f p (Do.Call g h q) fs below of = refl

-- the host tells what the move of the open frees tells
pub tells : (f : FreeFrame) (fs : List FreeFrame) (ws : List Waiting) (p : Pool) → (next_of (free_view f fs ws p)).0 ≡ events p.ring (moves (f ∷ fs) p).0
tells f fs ws p = told-events f p (free_step f p) fs (below_free fs ws) (is_move f p)

-- the step of a free speaks where it tells an event
pub speaks-events : (f : FreeFrame) (fs : List FreeFrame) (ws : List Waiting) (p : Pool) → speaking_view (free_view f fs ws p) ≡ is_event p.ring (moves (f ∷ fs) p).0
speaks-events f fs ws p = each (free_step f p) (is_move f p)
  where
    over : (a : FreeReply) (q : Pool) (fs : List FreeFrame) → false ≡ is_event p.ring (answered a q fs).0
    over a q [] = refl
    over a q (g ∷ fs) = by_test (awaits_run g) (λ t. rw t refl) (λ t. rw t refl)

    news : (o : Option Event) (g : FreeFrame) (q : Pool) → speaks (announced o g q) ≡ is_some o
    news None g q = refl
    news (Some e) g q = refl

    each : (m : FreeMove) → IsMoveOf f p m → speaks (lifted p.ring m) ≡ is_event p.ring (free_moved m fs).0
    each (Do.Done a q) of = over a q fs
    each (Do.Go g q) of = refl
    each (Do.Emit t g q) of = news (event_of p.ring t) g q
    each (Do.Wait t g q) of = sym (ap is_some (no-event-asked p.ring t f of.2))
    each (Do.Call g h q) of = refl

-- ---- moves that tell nothing

abbrev seen_frees : OpenFrees → List Waiting → View
seen_frees s ws = freeing_view s.works ws s.pool

-- a move leads there, in a step of the host that tells nothing
move-onward : (f : FreeFrame) (fs : List FreeFrame) (ws : List Waiting) (p : Pool) (told : Option FreeStep) (t : OpenFrees) → IsConsistent (free_view f fs ws p) → moves (f ∷ fs) p ≡ (told, t) → is_event p.ring told ≡ false
    → StepsSilently (free_view f fs ws p) (led (told, t) ws)
move-onward f fs ws p told t h m quiet =
    onward (free_view f fs ws p) (led (told, t) ws) h (speaks-events f fs ws p ∙ ap (λ (z : Option FreeStep × OpenFrees). is_event p.ring z.0) m ∙ quiet)
    (leads f fs ws p ∙ ap (λ (z : Option FreeStep × OpenFrees). led z ws) m)

-- moves that tell nothing lead from one view to another
pub silently-along : (s t : OpenFrees) (ws : List Waiting) → Silently s t → IsConsistent (seen_frees s ws) → TellsSameStory (seen_frees s ws) (seen_frees t ws)
silently-along s _ ws Still h = stays (seen_frees s ws) h
silently-along s t ws (On u _ earlier last) h =
    let a : TellsSameStory (seen_frees s ws) (seen_frees u ws) = silently-along s u ws earlier h in
    along-then _ _ _ a (each u.works a.whole last)
  where
    each : (works : List FreeFrame) → IsConsistent (freeing_view works ws u.pool) → moves works u.pool ≡ (None, t) → TellsSameStory (freeing_view works ws u.pool) (seen_frees t ws)
    each [] w m =
        let e : (let o : OpenFrees = record { works = []; pool = u.pool } in o) ≡ t = ap (λ (z : Option FreeStep × OpenFrees). z.1) m in
        subst (λ (z : OpenFrees). TellsSameStory (freeing_view [] ws u.pool) (seen_frees z ws)) e (stays (freeing_view [] ws u.pool) w)
    each (f ∷ fs) w m = (move-onward f fs ws u.pool None t w m refl).along

-- ---- a step of the innermost free

-- what is asked for tells which free waits for it
same-frame : (asked : FreeStep) (f g : FreeFrame) → AsksFor asked f → AsksFor asked g → IsPreparing (Some g) → f ≡ g
same-frame (Prepare x) (Preparing y) (Preparing z) a b i = ap Preparing (sym a ∙ b)
same-frame (Drain x) (Draining y) (Draining z) a b i = ap Draining (sym a ∙ b)
same-frame (Prepare x) (Preparing y) g a b i = absurd b
same-frame (Drain x) (Draining y) g a b i = absurd b
same-frame (AskOf x) f (Hooked z h) a b i = absurd i
same-frame (AskOf x) f g a b i = absurd b
same-frame asked f g a b i = absurd a

module _ (f : FreeFrame) (fs : List FreeFrame) (ws : List Waiting) (p : Pool) (new : OpenFrees) (h : IsConsistent (free_view f fs ws p)) where
  abbrev mid : OpenFrees
  mid = (moves (f ∷ fs) p).1

  told-by : (t : FreeStep) → Steps (record { works = f ∷ fs; pool = p }) t new → moves (f ∷ fs) p ≡ (Some t, mid)
  told-by t s = ap (λ (z : Option FreeStep). let y : Option FreeStep × OpenFrees = (z, mid) in y) s.tells

  no-event : (t : FreeStep) → Steps (record { works = f ∷ fs; pool = p }) t new → speaking_view (free_view f fs ws p) ≡ false → is_event p.ring (Some t) ≡ false
  no-event t s quiet = ap (is_event p.ring) (sym s.tells) ∙ sym (speaks-events f fs ws p) ∙ quiet

  pub step-news : (t : FreeStep) → Steps (record { works = f ∷ fs; pool = p }) t new → IsNews t → speaking_view (free_view f fs ws p) ≡ false → StepsSilently (free_view f fs ws p) (seen_frees new ws)
  step-news t s n quiet =
      let on : StepsSilently (free_view f fs ws p) (seen_frees mid ws) = subst (StepsSilently (free_view f fs ws p)) (news-view t mid ws n) (move-onward f fs ws p (Some t) mid h (told-by t s) (no-event t s quiet)) in
      onward-along _ _ _ on (silently-along mid new ws s.moves_on on.along.whole)

  pub step-event : (t : FreeStep) (e : Event) → Steps (record { works = f ∷ fs; pool = p }) t new → event_of p.ring t ≡ Some e → IsNews t → AfterEvent (free_view f fs ws p) (seen_frees new ws) e
  step-event t e s loud n =
      let tell : (next_of (free_view f fs ws p)).0 ≡ Some e = tells f fs ws p ∙ ap (events p.ring) s.tells ∙ loud in
      let lead : (next_of (free_view f fs ws p)).1 ≡ seen_frees mid ws = leads f fs ws p ∙ ap (λ (z : Option FreeStep × OpenFrees). led z ws) (told-by t s) ∙ news-view t mid ws n in
      let a : AfterEvent (free_view f fs ws p) (seen_frees mid ws) e = after-event (free_view f fs ws p) (seen_frees mid ws) e h (both _ _ _ tell lead) in
      event-along _ _ _ e a (silently-along mid new ws s.moves_on a.whole)
    where
      both : (z : Option Event × View) (x : Option Event) (y : View) → z.0 ≡ x → z.1 ≡ y → z ≡ (x, y)
      both (a, b) x y d e = ap (λ (w : Option Event). let z : Option Event × View = (w, b) in z) d ∙ ap (λ (w : View). let z : Option Event × View = (x, w) in z) e

  -- a free that asks waits, and stays as it is
  asks-still : (asked : FreeStep) (g : FreeFrame) → AsksFor asked g → Steps (record { works = f ∷ fs; pool = p }) asked new → AsksFor asked f × (new ≡ record { works = f ∷ fs; pool = p })
  asks-still asked g a s =
      let k = asks-waiting f fs p asked g mid a (told-by asked s) in
      let loud : speaking mid ≡ true = rw k.1 (run-speaks f fs p (asks-run asked f k.0)) in
      (k.0, sym (still mid new s.moves_on loud) ∙ k.1)

  asked-onward : (asked : FreeStep) (g : FreeFrame) → AsksFor asked g → event_of p.ring asked ≡ None → Steps (record { works = f ∷ fs; pool = p }) asked new → StepsSilently (free_view f fs ws p) (run_view new ws)
  asked-onward asked g a silent s =
      let k = asks-waiting f fs p asked g mid a (told-by asked s) in
      let loud : speaking mid ≡ true = rw k.1 (run-speaks f fs p (asks-run asked f k.0)) in
      let same : mid ≡ new = still mid new s.moves_on loud in
      subst (StepsSilently (free_view f fs ws p)) (asked-view asked f mid ws k.0 ∙ ap (λ (z : OpenFrees). run_view z ws) same)
      (move-onward f fs ws p (Some asked) mid h (told-by asked s) (ap is_some silent))

  -- the run of a destructor begins
  pub step-asks : (x : Obj) → Steps (record { works = f ∷ fs; pool = p }) (AskOf x) new
      → (g : ℕ) × HasHook (row_of new.pool.rows x) g × StepsSilently (free_view f fs ws p) (other_view (frame.Call (Asking (Routine (hook_moment x g)))) new.works (Freeing ∷ ws) new.pool)
  step-asks x s = each f h (asks-still (AskOf x) (Hooked x 0) refl s).0 (asks-still (AskOf x) (Hooked x 0) refl s).1 (asked-onward (AskOf x) (Hooked x 0) refl refl s)
    where
      each : (g : FreeFrame) → IsConsistent (free_view g fs ws p) → AsksFor (AskOf x) g → new ≡ record { works = g ∷ fs; pool = p } → StepsSilently (free_view f fs ws p) (run_view new ws)
          → (k : ℕ) × HasHook (row_of new.pool.rows x) k × StepsSilently (free_view f fs ws p) (other_view (frame.Call (Asking (Routine (hook_moment x k)))) new.works (Freeing ∷ ws) new.pool)
      each (Hooked y k) w a e on =
          let hook : HasHook (row_of p.rows y) k = w.sound.rests.1 in
          let on' : StepsSilently (free_view f fs ws p) (run_view (record { works = Hooked y k ∷ fs; pool = p }) ws) = rw e at on in
          (k, rw (e, a) hook, rw (e, a) on')
      each g w a e on = absurd a

  -- what comes before the freeing of a request, or of a queue, begins
  pub step-prepares : (asked : FreeStep) (g : FreeFrame) → AsksFor asked g → IsPreparing (Some g) → event_of p.ring asked ≡ None → Steps (record { works = f ∷ fs; pool = p }) asked new
      → (new ≡ record { works = g ∷ fs; pool = p }) × StepsSilently (free_view f fs ws p) (other_view (run_for g) new.works (Freeing ∷ ws) new.pool)
  step-prepares asked g a i silent s =
      let k = asks-still asked g a s in
      let same : f ≡ g = same-frame asked f g k.0 a i in
      let is : new ≡ record { works = g ∷ fs; pool = p } = k.1 ∙ ap (λ (z : FreeFrame). let y : OpenFrees = record { works = z ∷ fs; pool = p } in y) same in
      let on : StepsSilently (free_view f fs ws p) (run_view (record { works = g ∷ fs; pool = p }) ws) = subst (λ (z : OpenFrees). StepsSilently (free_view f fs ws p) (run_view z ws)) is (asked-onward asked g a silent s) in
      (is, subst (λ (z : OpenFrees). StepsSilently (free_view f fs ws p) (other_view (run_for g) z.works (Freeing ∷ ws) z.pool)) (sym is) on)

  -- the free is over, and nothing is done before its answer is heard
  pub ends-there : (a : FreeReply) → Steps (record { works = f ∷ fs; pool = p }) (Done a) new → mid ≡ new
  ends-there a s = still mid new s.moves_on (done-speaks (told-by (Done a) s))
    where
      no-news : IsNews (Done a) → ⊥
      no-news n = n

      over : (b : FreeReply) (q : Pool) (gs : List FreeFrame) (t : OpenFrees) → answered b q gs ≡ (Some (Done a), t) → speaking t ≡ true
      over b q [] t e = let d : record { works = []; pool = q } ≡ t = ap (λ (z : Option FreeStep × OpenFrees). z.1) e in subst (λ (z : OpenFrees). speaking z ≡ true) d refl
      over b q (g ∷ gs) t e = by_test (awaits_run g)
          (λ u.
          let e' : (let y : Option FreeStep × OpenFrees = (Some (Done b), record { works = g ∷ gs; pool = q }) in y) ≡ (Some (Done a), t) = rw u at e in
          let d : record { works = g ∷ gs; pool = q } ≡ t = ap (λ (z : Option FreeStep × OpenFrees). z.1) e' in
          subst (λ (z : OpenFrees). speaking z ≡ true) d (run-speaks g gs q u))
          (λ u.
          let e' : (let y : Option FreeStep × OpenFrees = (None, record { works = free_resume g b ∷ gs; pool = q }) in y) ≡ (Some (Done a), t) = rw u at e in
          let bad : None ≡ Some (Done a) = ap (λ (z : Option FreeStep × OpenFrees). z.0) e' in cc)

      each : (m : FreeMove) → IsMoveOf f p m → free_moved m fs ≡ (Some (Done a), mid) → speaking mid ≡ true
      each (Do.Done b q) of e = over b q fs mid e
      each (Do.Go g q) of e = let bad : None ≡ Some (Done a) = ap (λ (z : Option FreeStep × OpenFrees). z.0) e in cc
      each (Do.Call g k q) of e = let bad : None ≡ Some (Done a) = ap (λ (z : Option FreeStep × OpenFrees). z.0) e in cc
      each (Do.Emit t g q) of e = let same : Some t ≡ Some (Done a) = ap (λ (z : Option FreeStep × OpenFrees). z.0) e in let is : t ≡ Done a = cc in absurd (no-news (subst IsNews is of))
      each (Do.Wait t g q) of e = let same : Some t ≡ Some (Done a) = ap (λ (z : Option FreeStep × OpenFrees). z.0) e in let is : t ≡ Done a = cc in absurd (subst (λ (z : FreeStep). AsksFor z f) is of.2)

      done-speaks : moves (f ∷ fs) p ≡ (Some (Done a), mid) → speaking mid ≡ true
      done-speaks e = each (free_step f p) (is_move f p) e

  pub step-ends : (a : FreeReply) → Steps (record { works = f ∷ fs; pool = p }) (Done a) new → StepsSilently (free_view f fs ws p) (over_view a new ws)
  step-ends a s =
      subst (λ (z : OpenFrees). StepsSilently (free_view f fs ws p) (over_view a z ws)) (ends-there a s) (move-onward f fs ws p (Some (Done a)) mid h (told-by (Done a) s) refl)
