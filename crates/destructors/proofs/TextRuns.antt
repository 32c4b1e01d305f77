-- A free that is driven from its beginning to its end is the free of the rules' text.
use Rattle.std.proofs.Common.{◌≡◌, ◌≢◌, ℕ, suc, zero, ◌+◌, List, [], ◌∷◌, ◌++◌, map, Option, Some, None, true, false, refl, sym, ◌∙◌, ap, subst, inl, inr, arith}
use Rattle.step_machine.specs.Machine.{Outcome, run, rest, pass, leads, tell, tells, followed, map_items}
use Rattle.step_machine.specs.Machine.{Move as Do}
use Rattle.step_machine.specs.Machine.Outcome.{Ended, Waits, Stray, Short}
use Rattle.step_machine.specs.Noted.{Noted, with_note}
use Rattle.step_machine.proofs.Ends.{NotShort, Below-equal, run-same}
use Rattle.step_machine.proofs.Lawful.{append-none}
use Rattle.step_machine.proofs.MoreTurns.{more-run}
use Rattle.step_machine.proofs.Laws.{pass-after, rest-more}
use Rattle.step_machine.proofs.NotedLaws.{noted-run}
use Rattle.step_machine.proofs.Uses.{uses, tells-ended, ended-followed}
use Rattle.tree_specs.specs.declared.event.Event.{Event}
use Rattle.tree_specs.specs.declared.frame.Answer.{Answer}
use Rattle.tree_specs.specs.declared.frame.Answer.TheVariants.{Freed}
use Rattle.tree_specs.specs.declared.frame.Frame.{Frame}
use Rattle.tree_specs.specs.declared.frame.Frame.TheVariants as frame
use Rattle.tree_specs.specs.declared.frame.FreeFrame.{FreeFrame}
use Rattle.tree_specs.specs.declared.frame.FreeFrame.TheVariants.{Unlinking, Beginning, Hooked, Preparing, Draining, Looping, Ending}
use Rattle.tree_specs.specs.declared.frame.Purpose.TheVariants.{Emptying}
use Rattle.tree_specs.specs.declared.free_step.FreeReply.{FreeReply}
use Rattle.tree_specs.specs.declared.free_step.FreeReply.TheVariants.{Ok}
use Rattle.tree_specs.specs.declared.free_step.FreeStep.{FreeStep}
use Rattle.tree_specs.specs.declared.free_step.FreeStep.TheVariants.{Ask, Prepare, Drain, Done}
use Rattle.tree_specs.specs.declared.object.Obj.{Obj}
use Rattle.tree_specs.specs.declared.object.Owner.{Owner}
use Rattle.tree_specs.specs.declared.question.Input.{Input}
use Rattle.tree_specs.specs.Invariants.Noted.{NotesHold, RestsNoted, received_next}
use Rattle.tree_specs.specs.Invariants.Noted.{Noted as NotedOf}
use Rattle.tree_specs.specs.Invariants.Sound.{Sound, Footing, FreeRests, claims, footing}
use Rattle.tree_specs.specs.Invariants.Sound.Footing.{OnCall}
use Rattle.tree_specs.specs.Invariants.Consistent.{IsPaidFor}
use Rattle.tree_specs.specs.Invariants.Queued.{QueuesHold, Queued, RestsQueued}
use Rattle.tree_specs.proofs.Invariants.Changes.{stands}
use Rattle.tree_specs.proofs.Turns.Seats.{reseat-free}
use Rattle.tree_specs.specs.Rules.Items.{Item}
use Rattle.tree_specs.specs.Rules.Items.Item.{Told}
use Rattle.tree_specs.specs.Tree.Pool.{Pool, target_at}
use Rattle.tree_specs.specs.Tree.Targets.{newest_ref}
use Rattle.tree_specs.specs.Rules.Story.{items, free, unlink, children}
use Rattle.tree_specs.specs.Rules.Sequence.{Scene, CallStart, gives}
use Rattle.tree_specs.specs.Machine.Meaning.{noted_table, mean, stated}
use Rattle.tree_specs.specs.Machine.FreeTable.{FreeMove, free_step, free_resume}
use Rattle.tree_specs.specs.Machine.Table.{Step, table, notes, step, resume, run_for, freeing_resume, event_of, lifted}
use Rattle.tree_specs.proofs.Rules.Means.{run-means}
use Rattle.tree_specs.proofs.Rules.MidStories.{innermost-enough}
use Rattle.destructors.specs.Frees.{OpenFrees, awaits_run, answered, moved, moves, next_of, speaking, Silently, Still, On, Steps, Begins}
use Rattle.destructors.specs.Runs.{IsNews, AsksFor, listed, told_of, run_of, gone_on, Drives, Over, Tells, Runs, EndsAs}
use Rattle.destructors.proofs.FreeMoves.{IsMoveOf, is_move}
use Rattle.destructors.specs.Moves.{IsLiveRow}
use Rattle.destructors.specs.Works.{AreAwaiting, MayBegin}
use Rattle.destructors.proofs.Hosting.{AwaitsRun, awaiting-runs, resumed-free, told-answer}
use Rattle.destructors.proofs.Children.{renamed, claims-renamed, all-wait, on-call, stacked, sizes-renamed, are-of-children}
use Rattle.destructors.proofs.Begins.{may-free, may-unlink, may-empty}
use Rattle.destructors.proofs.Settling.{run-speaks, still, no-news, asks-run, asks-waiting}

waits-speak : (works : List FreeFrame) (p : Pool) → AwaitsRun works → speaking (record { works = works; pool = p }) ≡ true
waits-speak [] p w = refl
waits-speak (f ∷ fs) p w = run-speaks f fs p w

first-is : {A B : Type 0} (a : A × B) (u : A) → a.0 ≡ u → a ≡ (u, a.1)
first-is {A = A} {B = B} (v, b) u e = ap (λ (z : A). let y : A × B = (z, b) in y) e

-- all of these works wait for a free
abbrev NoRuns : List FreeFrame → Type 0
NoRuns [] = Unit {0}
NoRuns (f ∷ fs) = (awaits_run f ≡ false) × NoRuns fs

abbrev free_frame : FreeFrame → Frame
free_frame f = frame.Free f

abbrev free_frames : List FreeFrame → List Frame
free_frames fs = map free_frame fs

-- with some number of turns these works, the first innermost, end so
abbrev EndsBy : FreeFrame → List FreeFrame → Pool → List Input → List Item → FreeReply → Pool → Type 0
EndsBy f fs p is told a q = (n : ℕ) × (rest table n (frame.Free f) (free_frames fs) p is ≡ Ended (Freed a) q told [])

-- what stands above the works of other begins ends so
abbrev Ends : List FreeFrame → OpenFrees → List Input → List Item → FreeReply → Pool → Type 0
Ends below s is told a q = (f : FreeFrame) (fs : List FreeFrame) → NoRuns fs → s.works ≡ f ∷ (fs ++ below) → EndsBy f fs s.pool is told a q

-- ---- more turns

ended-whole : {A P I T : Type 0} (o : Outcome A P I T) (a : A) (p : P) (ts : List T) (is : List I) → o ≡ Ended a p ts is → NotShort o
ended-whole o a p ts is e = let Q : Outcome _ _ _ _ → Type 0 = λ x. NotShort x in subst Q (sym e) tt

-- one turn more, after a step that leads to this
turned : (n : ℕ) (f : FreeFrame) (fs : List FreeFrame) (p : Pool) (is : List Input) (a : FreeReply) (q : Pool) (told : List Item) → leads table (rest table n) (step (frame.Free f) p) (free_frames fs) is ≡ Ended (Freed a) q told []
    → EndsBy f fs p is told a q
turned n f fs p is a q told e =
    (suc n, sym (Below-equal _ _ (ended-whole _ (Freed a) q told [] e) (pass-after table n (step (frame.Free f) p) (free_frames fs) is)) ∙ e)

more-turns : (n d : ℕ) (f : Frame) (fs : List Frame) (p : Pool) (is : List Input) → NotShort (rest table n f fs p is) → rest table n f fs p is ≡ rest table (n + d) f fs p is
more-turns n zero f fs p is h = let e : n + 0 ≡ n = omega arith in ap (λ (k : ℕ). rest table k f fs p is) (sym e)
more-turns n (suc d) f fs p is h =
    let e : n + suc d ≡ suc (n + d) = omega arith in
    let ih = more-turns n d f fs p is h in
    ih ∙ Below-equal _ _ (subst NotShort ih h) (rest-more table (n + d) f fs p is) ∙ ap (λ (k : ℕ). rest table k f fs p is) (sym e)

-- ---- what a move leads to

first-of : {A B : Type 0} (a c : A) (b d : B) → (let y : A × B = (a, b) in y) ≡ (c, d) → a ≡ c
first-of {A = A} {B = B} a c b d e = ap (λ (z : A × B). z.0) e

second-of : {A B : Type 0} (a c : A) (b d : B) → (let y : A × B = (a, b) in y) ≡ (c, d) → b ≡ d
second-of {A = A} {B = B} a c b d e = ap (λ (z : A × B). z.1) e

module _ (below : List FreeFrame) (waits : AwaitsRun below) (a : FreeReply) (q : Pool) where
  -- an answer that is told ends the innermost begin
  told-over : (b : FreeReply) (p : Pool) (fs : List FreeFrame) → NoRuns fs → (u : OpenFrees) (t : FreeStep) → answered b p (fs ++ below) ≡ (Some t, u) → (fs ≡ []) × (t ≡ Done b) × (u ≡ record { works = below; pool = p })
  told-over b p [] n u t e =
      let e' : (let y : Option FreeStep × OpenFrees = (Some (Done b), record { works = below; pool = p }) in y) ≡ (Some t, u) = sym (told-answer b below p waits) ∙ e in
      let d : Some (Done b) ≡ Some t = first-of _ _ _ _ e' in
      let d' : Done b ≡ t = cc in
      (refl, sym d', sym (second-of _ _ _ _ e'))
  told-over b p (g ∷ fs) n u t e =
      let e' : (let y : Option FreeStep × OpenFrees = (None, record { works = free_resume g b ∷ (fs ++ below); pool = p }) in y) ≡ (Some t, u) = rw n.0 at e in
      let bad : None ≡ Some t = first-of _ _ _ _ e' in cc

  -- an answer that isn't told goes to the work below
  handed-down : (b : FreeReply) (p : Pool) (fs : List FreeFrame) → NoRuns fs → (u : OpenFrees) → answered b p (fs ++ below) ≡ (None, u)
      → (g : FreeFrame) × (gs : List FreeFrame) × (fs ≡ g ∷ gs) × (awaits_run g ≡ false) × NoRuns gs × (u ≡ record { works = free_resume g b ∷ (gs ++ below); pool = p })
  handed-down b p [] n u e =
      let e' : (let y : Option FreeStep × OpenFrees = (Some (Done b), record { works = below; pool = p }) in y) ≡ (None, u) = sym (told-answer b below p waits) ∙ e in
      let bad : Some (Done b) ≡ None = first-of _ _ _ _ e' in cc
  handed-down b p (g ∷ fs) n u e =
      let e' : (let y : Option FreeStep × OpenFrees = (None, record { works = free_resume g b ∷ (fs ++ below); pool = p }) in y) ≡ (None, u) = rw n.0 at e in
      (g, fs, refl, n.0, n.1, sym (second-of _ _ _ _ e'))

  -- ---- a move that tells nothing

  handed-back : (f g : FreeFrame) (fs gs : List FreeFrame) (b : FreeReply) (p r : Pool) (is : List Input) (told : List Item) (n : ℕ) → free_step f p ≡ Do.Done b r → fs ≡ g ∷ gs → awaits_run g ≡ false
      → rest table n (frame.Free (free_resume g b)) (free_frames gs) r is ≡ Ended (Freed a) q told [] → EndsBy f fs p is told a q
  handed-back f g fs gs b p r is told n k e free l = turned n f fs p is a q told (rw (k, e, resumed-free g b free) l)

  silent-back : (s t : OpenFrees) (is : List Input) (told : List Item) → next_of s ≡ (None, t) → Ends below t is told a q → Ends below s is told a q
  silent-back s t is told e h f fs n w = each (free_step f s.pool) refl (is_move f s.pool) (subst (λ (l : List FreeFrame). moves l s.pool ≡ (None, t)) w e)
    where
      later : (g : FreeFrame) (gs : List FreeFrame) (p : Pool) → NoRuns gs → record { works = g ∷ (gs ++ below); pool = p } ≡ t → EndsBy g gs p is told a q
      later g gs p n d = subst (λ (z : OpenFrees). Ends below z is told a q) (sym d) h g gs n refl

      each : (m : FreeMove) → free_step f s.pool ≡ m → IsMoveOf f s.pool m → moved m (fs ++ below) ≡ (None, t) → EndsBy f fs s.pool is told a q
      each (Do.Done b p) k of d =
          let u = handed-down b p fs n t d in
          let l = later (free_resume u.0 b) u.1 p u.4 (sym u.5) in
          handed-back f u.0 fs u.1 b s.pool p is told l.0 k u.2 u.3 l.1
      each (Do.Go g p) k of d =
          let l = later g fs p n (second-of _ _ _ _ d) in
          turned l.0 f fs s.pool is a q told (rw k l.1)
      each (Do.Emit u g p) k of d = let bad : Some u ≡ None = first-of _ _ _ _ d in cc
      each (Do.Wait u g p) k of d = let bad : Some u ≡ None = first-of _ _ _ _ d in cc
      each (Do.Call g i p) k of d =
          let l = later g (i ∷ fs) p (of.1, n) (second-of _ _ _ _ d) in
          turned l.0 f fs s.pool is a q told (rw k l.1)

  silently-back : (s t : OpenFrees) (is : List Input) (told : List Item) → Silently s t → Ends below t is told a q → Ends below s is told a q
  silently-back s _ is told Still h = h
  silently-back s t is told (On u _ first last) h = silently-back s u is told first (silent-back u t is told last h)

  -- ---- a step that tells something

  news-back : (s t : OpenFrees) (news : FreeStep) (is : List Input) (told : List Item) → IsNews news → next_of s ≡ (Some news, t) → Ends below t is told a q → Ends below s is (told_of s.pool.ring news ++ told) a q
  news-back s t news is told new e h f fs n w = each (free_step f s.pool) refl (is_move f s.pool) (subst (λ (l : List FreeFrame). moves l s.pool ≡ (Some news, t)) w e)
    where
      no-end : (b : FreeReply) → news ≡ Done b → ⊥
      no-end b d = let bad : IsNews (Done b) = subst IsNews d new in bad

      no-ask : (g : FreeFrame) (u : FreeStep) → AsksFor u g → u ≡ news → ⊥
      no-ask g u of d = no-news u g (subst IsNews (sym d) new) of

      -- where a step closes no descriptor, an object's leaving is no event
      emitted : (m : ℕ) (o : Option Event) (u : FreeStep) (g : FreeFrame) (p : Pool) → event_of s.pool.ring u ≡ o → rest table m (frame.Free g) (free_frames fs) p is ≡ Ended (Freed a) q told []
          → leads table (rest table m) (lifted s.pool.ring (Do.Emit u g p)) (free_frames fs) is ≡ Ended (Freed a) q (listed (event_of s.pool.ring u) ++ told) []
      emitted m None u g p k l = rw k l
      emitted m (Some ev) u g p k l = rw k (ap (tell (Told ev)) l)

      each : (m : FreeMove) → free_step f s.pool ≡ m → IsMoveOf f s.pool m → moved m (fs ++ below) ≡ (Some news, t) → EndsBy f fs s.pool is (told_of s.pool.ring news ++ told) a q
      each (Do.Done b p) k of d = absurd (no-end b (told-over b p fs n t news d).1)
      each (Do.Go g p) k of d = let bad : None ≡ Some news = first-of _ _ _ _ d in cc
      each (Do.Emit u g p) k of d =
          let same : Some u ≡ Some news = first-of _ _ _ _ d in
          let same' : u ≡ news = cc in
          let l = subst (λ (z : OpenFrees). Ends below z is told a q) (sym (second-of _ _ _ _ d)) h g fs n refl in
          let l' = emitted l.0 (event_of s.pool.ring u) u g p refl l.1 in
          turned l.0 f fs s.pool is a q (told_of s.pool.ring news ++ told) (rw k (l' ∙ ap (λ (z : FreeStep). let y : Outcome Answer Pool Input Item = Ended (Freed a) q (told_of s.pool.ring z ++ told) [] in y) same'))
      each (Do.Wait u g p) k of d =
          let same : Some u ≡ Some news = first-of _ _ _ _ d in
          let same' : u ≡ news = cc in
          absurd (no-ask f u of.2 same')
      each (Do.Call g i p) k of d = let bad : None ≡ Some news = first-of _ _ _ _ d in cc

  -- the innermost free is over
  over-back : (s t : OpenFrees) (b : FreeReply) → Steps s (Done b) t → b ≡ a → t.pool ≡ q → Ends below s [] [] a q
  over-back s t b steps same there f fs n w = each (free_step f s.pool) refl (is_move f s.pool) (subst (λ (l : List FreeFrame). moves l s.pool ≡ (Some (Done b), (next_of s).1)) w (first-is (next_of s) (Some (Done b)) steps.tells))
    where
      settled : (p : Pool) → (next_of s).1 ≡ record { works = below; pool = p } → p ≡ q
      settled p d =
          let loud : speaking (record { works = below; pool = p }) ≡ true = waits-speak below p waits in
          ap (λ (z : OpenFrees). z.pool) (sym d ∙ still (next_of s).1 t steps.moves_on (rw d loud)) ∙ there

      each : (m : FreeMove) → free_step f s.pool ≡ m → IsMoveOf f s.pool m → moved m (fs ++ below) ≡ (Some (Done b), (next_of s).1) → EndsBy f fs s.pool [] [] a q
      each (Do.Done c p) k of d =
          let u = told-over c p fs n (next_of s).1 (Done b) d in
          let e1 : Done b ≡ Done c = u.1 in
          let e2 : b ≡ c = cc in
          let ans : c ≡ a = sym e2 ∙ same in
          turned 0 f fs s.pool [] a q [] (rw (k, u.0) (ap (λ (z : FreeReply). let y : Outcome Answer Pool Input Item = Ended (Freed z) p [] [] in y) ans ∙ ap (λ (z : Pool). let y : Outcome Answer Pool Input Item = Ended (Freed a) z [] [] in y) (settled p u.2)))
      each (Do.Go g p) k of d = let bad : None ≡ Some (Done b) = first-of _ _ _ _ d in cc
      each (Do.Emit u g p) k of d =
          let same_step : Some u ≡ Some (Done b) = first-of _ _ _ _ d in
          let e1 : u ≡ Done b = cc in
          let bad : IsNews (Done b) = subst IsNews e1 of in absurd bad
      each (Do.Wait u g p) k of d =
          let same_step : Some u ≡ Some (Done b) = first-of _ _ _ _ d in
          let e1 : u ≡ Done b = cc in
          let bad : AsksFor (Done b) f = subst (λ (z : FreeStep). AsksFor z f) e1 of.2 in absurd bad
      each (Do.Call g i p) k of d = let bad : None ≡ Some (Done b) = first-of _ _ _ _ d in cc

  -- ---- what a free waits for runs

  -- a run that ends with these inputs leaves those that come after them
  run-on : (m : ℕ) (g : FreeFrame) (b : Answer) (p r : Pool) (us is : List Input) (ran : List Item) → run_of m g p us ≡ Ended b r ran [] → run_of m g p (us ++ is) ≡ Ended b r ran is
  run-on m g b p r us is ran e =
      let u = uses table m (run_for g) p us b r ran [] e in
      let same : u.0 ≡ us = sym (append-none u.0) ∙ u.1 in
      ap (λ (z : List Input). run_of m g p (z ++ is)) (sym same) ∙ u.2.ends is

  -- a work that asks calls the run that it waits for
  calls-run : (asked : FreeStep) (g : FreeFrame) (p : Pool) → AsksFor asked g → step (frame.Free g) p ≡ Do.Call (run_for g) (frame.Free g) p
  calls-run (Ask x) (Hooked y h) p a = refl
  calls-run (Prepare x) (Preparing y) p a = refl
  calls-run (Drain x) (Draining y) p a = refl
  calls-run asked g p a = absurd a

  runs-back : (s t : OpenFrees) (asked : FreeStep) (g : FreeFrame) (gs : List FreeFrame) (m : ℕ) (b : Answer) (p : Pool) (us is : List Input) (ran told : List Item) → Steps s asked t → AsksFor asked g → t.works ≡ g ∷ gs
      → run_of m g t.pool us ≡ Ended b p ran [] → Ends below (gone_on b g gs p) is told a q → Ends below s (us ++ is) (ran ++ told) a q
  runs-back s t asked g gs m b p us is ran told steps asks works ran_so ends f fs n w =
      let k = asks-waiting f (fs ++ below) s.pool asked g (next_of s).1 asks (subst (λ (l : List FreeFrame). moves l s.pool ≡ (Some asked, (next_of s).1)) w (first-is (next_of s) (Some asked) steps.tells)) in
      let loud : speaking (next_of s).1 ≡ true = rw k.1 (run-speaks f (fs ++ below) s.pool (asks-run asked f k.0)) in
      let t_is : t ≡ record { works = f ∷ (fs ++ below); pool = s.pool } = sym (still (next_of s).1 t steps.moves_on loud) ∙ k.1 in
      let pool_is : t.pool ≡ s.pool = ap (λ (z : OpenFrees). z.pool) t_is in
      let here : f ∷ (fs ++ below) ≡ g ∷ gs = sym (ap (λ (z : OpenFrees). z.works) t_is) ∙ works in
      let same : f ≡ g = cc in
      let rest_is : fs ++ below ≡ gs = cc in
      let l = ends (freeing_resume g b) fs n (ap (λ (z : List FreeFrame). freeing_resume g b ∷ z) (sym rest_is)) in
      let run_now : run_of m g s.pool (us ++ is) ≡ Ended b p ran is = run-on m g b s.pool p us is ran (subst (λ (z : Pool). run_of m g z us ≡ Ended b p ran []) pool_is ran_so) in
      let big : run_of (m + l.0) g s.pool (us ++ is) ≡ Ended b p ran is = sym (run-same table m l.0 (run_for g) s.pool (us ++ is) (ended-whole _ b p ran is run_now)) ∙ run_now in
      let turns : l.0 + m ≡ m + l.0 = omega arith in
      let rest_on : rest table (m + l.0) (frame.Free (freeing_resume g b)) (free_frames fs) p is ≡ Ended (Freed a) q told [] =
      ap (λ (k : ℕ). rest table k (frame.Free (freeing_resume g b)) (free_frames fs) p is) (sym turns)
      ∙ sym (more-turns l.0 m (frame.Free (freeing_resume g b)) (free_frames fs) p is (ended-whole _ (Freed a) q told [] l.1)) ∙ l.1 in
      let followed_on : followed (run_of (m + l.0) g s.pool (us ++ is)) (λ c r left. pass table (m + l.0) (free_frames fs) (run table (m + l.0) (resume (frame.Free g) c) r left)) ≡ Ended (Freed a) q (ran ++ told) [] =
      ap (λ (o : Outcome Answer Pool Input Item). followed o (λ c r left. pass table (m + l.0) (free_frames fs) (run table (m + l.0) (resume (frame.Free g) c) r left))) big
      ∙ ap (λ (o : Outcome Answer Pool Input Item). tells ran o) rest_on ∙ tells-ended ran (Freed a) q told [] in
      let leading : leads table (rest table (m + l.0)) (step (frame.Free g) s.pool) (free_frames fs) (us ++ is) ≡ Ended (Freed a) q (ran ++ told) [] =
      ap (λ (z : Step). leads table (rest table (m + l.0)) z (free_frames fs) (us ++ is)) (calls-run asked g s.pool asks) ∙ followed_on in
      subst (λ (z : FreeFrame). EndsBy z fs s.pool (us ++ is) (ran ++ told) a q) (sym same) (turned (m + l.0) g fs s.pool (us ++ is) a q (ran ++ told) leading)

-- ---- all of it

-- works that come to an end, with these works below
drives-ends : (below : List FreeFrame) → AwaitsRun below → (s : OpenFrees) (is : List Input) (told : List Item) (a : FreeReply) (q : Pool) → Drives s is told a q → Ends below s is told a q
drives-ends below waits s _ _ a _ (Over _ t _ steps) = over-back below waits a t.pool s t a steps refl refl
drives-ends below waits s _ _ a q (Tells _ t news is more _ _ new steps later) =
    news-back below waits a q s (next_of s).1 news is more new (first-is (next_of s) (Some news) steps.tells)
    (silently-back below waits a q (next_of s).1 t is more steps.moves_on (drives-ends below waits t is more a q later))
drives-ends below waits s _ _ a q (Runs _ t asked f fs n b p us is ran more _ _ steps asks works run later) =
    runs-back below waits a q s t asked f fs n b p us is ran more steps asks works run (drives-ends below waits (gone_on b f fs p) is more a q later)

-- what was begun ends so by the table
begun-ends : (f : FreeFrame) (below : List FreeFrame) (p : Pool) (s : OpenFrees) (is : List Input) (told : List Item) (a : FreeReply) (q : Pool) → AwaitsRun below → Begins (f ∷ below) p s → Drives s is told a q
    → (n : ℕ) × (run table n (frame.Free f) p is ≡ Ended (Freed a) q told [])
begun-ends f below p s is told a q waits started drives =
    silently-back below waits a q (record { works = f ∷ below; pool = p }) s is told started.moves_on (drives-ends below waits s is told a q drives) f [] tt refl

abbrev item_of : Scene → Item
item_of s = s.item

-- a run whose items are known
scenes-of : (o : Outcome Answer Pool Input Scene) (a : Answer) (q : Pool) (told : List Item) → map_items item_of o ≡ Ended a q told [] → (scenes : List Scene) × (o ≡ Ended a q scenes []) × (items scenes ≡ told)
scenes-of (Ended b r ts left) a q told e =
    let e1 : b ≡ a = cc in let e2 : r ≡ q = cc in let e3 : items ts ≡ told = cc in let e4 : left ≡ [] = cc in (
      ts,
      ap (λ (z : Answer). let y : Outcome Answer Pool Input Scene = Ended z r ts left in y) e1 ∙ ap (λ (z : Pool). let y : Outcome Answer Pool Input Scene = Ended a z ts left in y) e2
          ∙ ap (λ (z : List Input). let y : Outcome Answer Pool Input Scene = Ended a q ts z in y) e4,
      e3,
    )
scenes-of (Waits ts) a q told e = cc
scenes-of (Stray ts) a q told e = cc
scenes-of Short a q told e = cc

no-short : {A P I T U : Type 0} (f : T → U) (o : Outcome A P I T) → map_items f o ≡ Short → o ≡ Short
no-short f (Ended a p ts is) e = cc
no-short f (Waits ts) e = cc
no-short f (Stray ts) e = cc
no-short f Short e = refl

-- what holds of queues where no entries are freed holds whatever else is open
queues-under : (fs : List Frame) (p : Pool) → QueuesHold [] p → QueuesHold fs p
queues-under fs p h = record {
  queues = h.queues;
  entries = h.entries;
  waiting = h.waiting;
  idle = λ q t. elim (h.idle q t) [ inl none ↦ inl none | inr d ↦ cc ];
}

-- the stated turns are enough for what begins
begun-enough : (f : FreeFrame) (below : List FreeFrame) (p : Pool) (is : List Input) → MayBegin f p → NotedOf (frame.Free f) p → ((fs : List Frame) → RestsQueued (frame.Free f) fs p) → AreAwaiting below p → QueuesHold [] p
    → run noted_table (stated p is) (with_note None (frame.Free f)) p is ≢ Short
begun-enough f below p is may noted rests waits queues =
    let h = waits.over in
    let l = h.light in
    let small = may.small in
    let under : List Frame = renamed (frame.Free f) h.below in
    let weight = sizes-renamed (frame.Free f) h.below in
    let on : footing under ≡ OnCall = on-call (frame.Free f) h.below waits.on in
    let may_rest : FreeRests f (footing under) (λ x. claims x under) p = subst (λ (z : Footing). FreeRests f z (λ x. claims x under) p) (sym on) (may.rests (λ x. claims x under)) in
    let sound : Sound (frame.Free f) under p =
    stands (frame.Free (Ending Ok)) (frame.Free f) h.below under p (λ x. rw (may.claims_nothing x) (claims-renamed x (frame.Free f) h.below)) (all-wait (frame.Free f) h.below h.sound.waiting) may_rest h.sound in
    let queued : Queued (frame.Free f) under p = record { pool = queues-under (frame.Free f ∷ under) p queues; works = rests under; frees = are-of-children (frame.Free f) h.below } in
    let light : IsPaidFor (frame.Free f) under p = omega (arith, l, small, weight) in
    innermost-enough (record { innermost = frame.Free f; below = under; pool = p }) is sound noted queued (stacked (frame.Free f) h.below (reseat-free (Ending Ok) f h.below h.seated)) light

-- and by the text, with the stated turns
begun-means : (f : FreeFrame) (below : List FreeFrame) (p : Pool) (s : OpenFrees) (is : List Input) (told : List Item) (a : FreeReply) (q : Pool) → MayBegin f p → RestsNoted (frame.Free f) p → received_next (frame.Free f) ≡ None → ((fs : List Frame) → RestsQueued (frame.Free f) fs p) → AreAwaiting below p → NotesHold None p → QueuesHold [] p
    → Begins (f ∷ below) p s → Drives s is told a q → (scenes : List Scene) × (mean (stated p is) (frame.Free f) None p is ≡ Ended (Freed a) q scenes []) × (items scenes ≡ told)
begun-means f below p s is told a q may noted next queued waits notes_hold queues_hold started drives =
    let n : ℕ = stated p is in
    let r = begun-ends f below p s is told a q (awaiting-runs below p waits) started drives in
    let w : Noted Frame CallStart = with_note None (frame.Free f) in
    let holds : NotedOf (frame.Free f) p = record { pool = rw next notes_hold; works = noted } in
    let whole : run noted_table n w p is ≢ Short = begun-enough f below p is may holds queued waits queues_hold in
    let plain : run table n (frame.Free f) p is ≢ Short = λ short. whole (no-short item_of (run noted_table n w p is) (noted-run notes table n w p is ∙ short)) in
    let ended : run table r.0 (frame.Free f) p is ≢ Short = λ short. let bad : Ended (Freed a) q told [] ≡ Short = sym r.1 ∙ short in cc in
    let sum : n + r.0 ≡ r.0 + n = omega arith in
    let same : run table n (frame.Free f) p is ≡ Ended (Freed a) q told [] =
    sym (more-run table n r.0 (frame.Free f) p is plain) ∙ ap (λ (k : ℕ). run table k (frame.Free f) p is) sum ∙ more-run table r.0 n (frame.Free f) p is ended ∙ r.1 in
    let c = scenes-of (run noted_table n w p is) (Freed a) q told (noted-run notes table n w p is ∙ same) in
    (c.0, sym (Below-equal _ _ (ended-whole _ (Freed a) q c.0 [] c.1) (run-means n w p is)) ∙ c.1, c.2)

freed-ends : (o : Outcome FreeReply Pool Input Scene) (a : FreeReply) (q : Pool) (ts : List Scene) → followed o (λ b. gives (Freed b)) ≡ Ended (Freed a) q ts [] → o ≡ Ended a q ts []
freed-ends o a q ts e =
    let w = ended-followed o (λ b r mid. gives (Freed b) r mid) (Freed a) q ts [] e in
    let e' : Ended (Freed w.0) w.1 [] w.4 ≡ Ended (Freed a) q w.3 [] = w.6 in
    let e1 : w.0 ≡ a = cc in let e2 : w.1 ≡ q = cc in let e3 : [] ≡ w.3 = cc in let e4 : w.4 ≡ [] = cc in
    let same : w.2 ≡ ts = sym (append-none w.2) ∙ ap (λ (z : List Scene). w.2 ++ z) e3 ∙ w.7 in
    w.5 ∙ ap (λ (z : FreeReply). let y : Outcome FreeReply Pool Input Scene = Ended z w.1 w.2 w.4 in y) e1 ∙ ap (λ (z : Pool). let y : Outcome FreeReply Pool Input Scene = Ended a z w.2 w.4 in y) e2
    ∙ ap (λ (z : List Scene). let y : Outcome FreeReply Pool Input Scene = Ended a q z w.4 in y) same ∙ ap (λ (z : List Input). let y : Outcome FreeReply Pool Input Scene = Ended a q ts z in y) e4

emptied-ends : (o : Outcome (Unit {0}) Pool Input Scene) (a : FreeReply) (q : Pool) (ts : List Scene) → followed o (λ u. gives (Freed Ok)) ≡ Ended (Freed a) q ts [] → (a ≡ Ok) × (o ≡ Ended tt q ts [])
emptied-ends o a q ts e =
    let w = ended-followed o (λ u r mid. gives (Freed Ok) r mid) (Freed a) q ts [] e in
    let e' : Ended (Freed Ok) w.1 [] w.4 ≡ Ended (Freed a) q w.3 [] = w.6 in
    let e1 : a ≡ Ok = cc in let e2 : w.1 ≡ q = cc in let e3 : [] ≡ w.3 = cc in let e4 : w.4 ≡ [] = cc in
    let same : w.2 ≡ ts = sym (append-none w.2) ∙ ap (λ (z : List Scene). w.2 ++ z) e3 ∙ w.7 in (
      e1,
      w.5 ∙ ap (λ (z : Pool). let y : Outcome (Unit {0}) Pool Input Scene = Ended tt z w.2 w.4 in y) e2
          ∙ ap (λ (z : List Scene). let y : Outcome (Unit {0}) Pool Input Scene = Ended tt q z w.4 in y) same ∙ ap (λ (z : List Input). let y : Outcome (Unit {0}) Pool Input Scene = Ended tt q ts z in y) e4,
    )

pub free-as_text : (x : Obj) (below : List FreeFrame) (p q : Pool) (s : OpenFrees) (is : List Input) (told : List Item) (a : FreeReply) → AreAwaiting below p → NotesHold None p → QueuesHold [] p → target_at p.rows x ≡ None → newest_ref p.rows x ≡ None
    → Begins (Beginning x ∷ below) p s → Drives s is told a q → EndsAs (free (stated p is) x p is) a q told
free-as_text x below p q s is told a waits notes queues object unheld started drives =
    let m = begun-means (Beginning x) below p s is told a q (may-free x p unheld object) tt refl (λ fs. tt) waits notes queues started drives in
    (m.0, freed-ends (free (stated p is) x p is) a q m.0 m.1, m.2)

pub unlink-as_text : (o : Owner) (x : Obj) (below : List FreeFrame) (p q : Pool) (s : OpenFrees) (is : List Input) (told : List Item) (a : FreeReply) → AreAwaiting below p → NotesHold None p → QueuesHold [] p → IsLiveRow p x → target_at p.rows x ≡ None
    → Begins (Unlinking o x ∷ below) p s → Drives s is told a q → EndsAs (unlink (stated p is) o x p is) a q told
unlink-as_text o x below p q s is told a waits notes queues live object started drives =
    let m = begun-means (Unlinking o x) below p s is told a q (may-unlink o x p live object) tt refl (λ fs. tt) waits notes queues started drives in
    (m.0, freed-ends (unlink (stated p is) o x p is) a q m.0 m.1, m.2)

pub children-as_text : (x : Obj) (below : List FreeFrame) (p q : Pool) (s : OpenFrees) (is : List Input) (told : List Item) (a : FreeReply) → AreAwaiting below p → NotesHold None p → QueuesHold [] p
    → Begins (Looping x Emptying ∷ below) p s → Drives s is told a q → (a ≡ Ok) × EndsAs (children (stated p is) x p is) tt q told
children-as_text x below p q s is told a waits notes queues started drives =
    let m = begun-means (Looping x Emptying) below p s is told a q (may-empty x p) tt refl (λ fs. tt) waits notes queues started drives in
    let e = emptied-ends (children (stated p is) x p is) a q m.0 m.1 in
    (e.0, (m.0, e.1, m.2))
