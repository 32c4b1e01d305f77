-- A move that tells nothing, by the parts of an engine.
use Rattle.std.proofs.Common.{◌≡◌, ℕ, ◌+◌, ◌≤◌, ◌<◌, List, [], ◌∷◌, length, Option, Some, None, true, false, refl, sym, ◌∙◌, ap, subst, inl, inr, arith}
use Rattle.tree_specs.specs.declared.frame.FreeFrame.{FreeFrame}
use Rattle.tree_specs.specs.declared.frame.FreeFrame.TheVariants.{Hooked, Preparing, Draining, Ending}
use Rattle.step_machine.specs.Machine.{Move as Do}
use Rattle.tree_specs.specs.declared.free_step.FreeReply.{FreeReply}
use Rattle.tree_specs.specs.declared.free_step.FreeStep.{FreeStep}
use Rattle.tree_specs.specs.declared.free_step.FreeStep.TheVariants.{Ask, Prepare, Drain, Done}
use Rattle.tree_specs.specs.Machine.FreeTable.{FreeMove, free_step, free_resume}
use Rattle.tree_specs.specs.Tree.Pool.{Pool}
use Rattle.tree_links.specs.Links.{Links, pool_of}
use Rattle.destructors.specs.Frees.{OpenFrees, before, frees_of, awaits_run, answered, moved, moves, speaks, speaking, Silently, Still, On}
use Rattle.destructors.specs.Works.{AtWork, IsAtWork, IsAwaiting, GoesOn}
use Rattle.destructors.specs.Engine.{AreKept, HasRoom, MayMove, IsBetweenCalls}
use Rattle.tree_specs.proofs.Tree.Numbered.{by_test}
use Rattle.destructors.specs.Moves.{MoveRests}
use Rattle.destructors.specs.Runs.{IsNews, AsksFor}
use Rattle.destructors.proofs.FreeMoves.{IsMoveOf, is_move}
use Rattle.destructors.proofs.Hosting.{AwaitsRun, awaiting-runs}
use Rattle.destructors.proofs.Keeping.{work-rests, kept, told-kept, falls, narrow, free_cost}

-- a work that awaits a run has nothing to do but to ask
pub run-speaks : (f : FreeFrame) (fs : List FreeFrame) (p : Pool) → awaits_run f ≡ true → speaks (f ∷ fs) (moves (f ∷ fs) p).0 ≡ true
run-speaks (Hooked x h) fs p w = refl
run-speaks (Preparing x) fs p w = refl
run-speaks (Draining x) fs p w = refl
run-speaks _ fs p w = cc

-- and rests on nothing
run-rests : (f : FreeFrame) (p : Pool) → awaits_run f ≡ true → MoveRests f p
run-rests (Hooked x h) p w = tt
run-rests (Preparing x) p w = tt
run-rests (Draining x) p w = tt
run-rests _ p w = cc

-- what the next move rests on
pub ready-rests : (f : FreeFrame) (o : Option FreeFrame) (tree : Links) → o ≡ Some f → IsBetweenCalls o tree → MoveRests f (pool_of tree)
ready-rests f o tree e r =
    let m : MayMove (Some f) tree = rw e at r.moves in
    elim m [
      | inl w ↦ work-rests f tree.frees (pool_of tree) w
      | inr waits ↦ run-rests f (pool_of tree) waits
    ]

-- a work whose next move tells nothing is at work
pub ready-work : (f : FreeFrame) (o : Option FreeFrame) (tree : Links) → o ≡ Some f → IsBetweenCalls o tree → speaking (frees_of (Some f) tree) ≡ false → AtWork (f ∷ tree.frees) (pool_of tree)
ready-work f o tree e r quiet =
    let m : MayMove (Some f) tree = rw e at r.moves in
    elim m [
      | inl w ↦ w
      | inr waits ↦ (let bad : true ≡ false = sym (run-speaks f tree.frees (pool_of tree) waits) ∙ quiet in cc)
    ]

-- what a move tells that tells nothing
silent : (o : Option FreeStep) (fs : List FreeFrame) (f : FreeFrame) → speaks (f ∷ fs) o ≡ false → o ≡ None
silent None fs f e = refl
silent (Some t) fs f e = cc

-- the frees that are at work are at hand
at-work : (o : Option FreeFrame) (tree : Links) → AreKept o tree → IsAtWork (frees_of o tree) → MayMove o tree
at-work None tree k w = k
at-work (Some f) tree k w = inl w

-- and they stay so where the tree keeps the same works
pub kept-same : (o : Option FreeFrame) (t t' : Links) → t'.frees ≡ t.frees → AreKept o t → AreKept o t'
kept-same None t t' e k = e ∙ k
kept-same (Some f) t t' e k = tt

pub record Onward (f : FreeFrame) (before_it : Links) (o : Option FreeFrame) (tree : Links) : Type 0 where
  pub ready : IsBetweenCalls o tree
  pub at_work : IsAtWork (frees_of o tree)
  pub silently : moves (f ∷ before_it.frees) (pool_of before_it) ≡ (None, frees_of o tree)
  pub rows : (R : ℕ) → length before_it.rows ≤ R → length tree.rows ≤ R
  pub falls : (R : ℕ) → length before_it.rows ≤ R → free_cost R (before o tree.frees) (pool_of tree) < free_cost R (f ∷ before_it.frees) (pool_of before_it)

pub onward : (f : FreeFrame) (g : Option FreeFrame) (old : Links) (next : FreeFrame) (new : Links) → g ≡ Some f → IsBetweenCalls g old
    → moves (f ∷ old.frees) (pool_of old) ≡ (None, frees_of (Some next) new) → length old.frees + old.room ≤ length new.frees + new.room → Onward f old (Some next) new
onward f g old next new e r m room =
    let quiet : speaking (frees_of (Some f) old) ≡ false = ap (λ (z : Option FreeStep × OpenFrees). speaks (f ∷ old.frees) z.0) m in
    let w = ready-work f g old e r quiet in
    let had : HasRoom (Some f) old = rw e at r.room in
    let l = narrow f old.frees (pool_of old) None (frees_of (Some next) new) w m in
    let work : IsAtWork (frees_of (Some next) new) = kept f old.frees (pool_of old) (frees_of (Some next) new) w m in
    record {
      ready = record { moves = inl work; room = omega (arith, had, l, room) };
      at_work = work;
      silently = m;
      rows = λ R n. (falls R f old.frees (pool_of old) (frees_of (Some next) new) w n m).0;
      falls = λ R n. (falls R f old.frees (pool_of old) (frees_of (Some next) new) w n m).1;
    }

-- ---- a move that tells something

-- a free that waits for its caller has nothing to do but to ask
pub awaiting-speaks : (s : OpenFrees) → IsAwaiting s → speaking s ≡ true
awaiting-speaks s a = each s.works (awaiting-runs s.works s.pool a)
  where
    each : (works : List FreeFrame) → AwaitsRun works → speaks works (moves works s.pool).0 ≡ true
    each [] w = refl
    each (f ∷ fs) w = run-speaks f fs s.pool w

-- where there is nothing to do but to tell, nothing is done silently
pub still : (s t : OpenFrees) → Silently s t → speaking s ≡ true → s ≡ t
still s _ Still loud = refl
still s t (On u _ before_it last) loud =
    let e : s ≡ u = still s u before_it loud in
    let last' : moves s.works s.pool ≡ (None, t) = rw e last in
    quiet s.works loud last'
  where
    quiet : (works : List FreeFrame) → speaks works (moves works s.pool).0 ≡ true → moves works s.pool ≡ (None, t) → (let o : OpenFrees = record { works = works; pool = s.pool } in o) ≡ t
    quiet [] loud m = ap (λ (z : Option FreeStep × OpenFrees). z.1) m
    quiet (f ∷ fs) loud m =
        let none : (moves (f ∷ fs) s.pool).0 ≡ None = ap (λ (z : Option FreeStep × OpenFrees). z.0) m in
        let bad : false ≡ true = rw none at loud in cc

-- the frees may go on after what was told
pub told-ready : (told : FreeStep) (o : Option FreeFrame) (tree : Links) → AreKept o tree → GoesOn told (frees_of o tree) → MayMove o tree
told-ready told None tree k g = k
told-ready told (Some f) tree k g = each told g
  where
    waits : IsAwaiting (frees_of (Some f) tree) → MayMove (Some f) tree
    waits a = inr (awaiting-runs (f ∷ tree.frees) (pool_of tree) a)

    each : (told : FreeStep) → GoesOn told (frees_of (Some f) tree) → MayMove (Some f) tree
    each (Ask x) a = waits a
    each (Prepare x) a = waits a
    each (Drain x) a = waits a
    each (Done a) w = waits w
    each _ w = inl w

-- and go on so after the moves that tell nothing
pub told-settled : (told : FreeStep) (s t : OpenFrees) → GoesOn told s → Silently s t → (IsAtWork s → IsAtWork t) → GoesOn told t
told-settled (Ask x) s t g moves_on keeps = subst IsAwaiting (still s t moves_on (awaiting-speaks s g)) g
told-settled (Prepare x) s t g moves_on keeps = subst IsAwaiting (still s t moves_on (awaiting-speaks s g)) g
told-settled (Drain x) s t g moves_on keeps = subst IsAwaiting (still s t moves_on (awaiting-speaks s g)) g
told-settled (Done a) s t g moves_on keeps = subst IsAwaiting (still s t moves_on (awaiting-speaks s g)) g
told-settled _ s t g moves_on keeps = keeps g

-- a move of an engine that tells something
pub record Tells (told : FreeStep) (o : Option FreeFrame) (tree : Links) : Type 0 where
  pub ready : IsBetweenCalls o tree
  pub goes_on : GoesOn told (frees_of o tree)

pub tells : (f : FreeFrame) (g : Option FreeFrame) (old : Links) (told : Option FreeStep) (t : FreeStep) (o : Option FreeFrame) (new : Links) → g ≡ Some f → IsAtWork (frees_of g old) → HasRoom g old → told ≡ Some t
    → moves (f ∷ old.frees) (pool_of old) ≡ (told, frees_of o new) → AreKept o new → length old.frees + old.room ≤ length new.frees + new.room → Tells t o new
tells f g old told t o new e w had is m k room =
    let w' : AtWork (f ∷ old.frees) (pool_of old) = rw e at w in
    let had' : HasRoom (Some f) old = rw e at had in
    let m' : moves (f ∷ old.frees) (pool_of old) ≡ (Some t, frees_of o new) = m ∙ ap (λ (z : Option FreeStep). let y : Option FreeStep × OpenFrees = (z, frees_of o new) in y) is in
    let on = told-kept f old.frees (pool_of old) t (frees_of o new) w' m' in
    let l = narrow f old.frees (pool_of old) (Some t) (frees_of o new) w' m' in
    record { ready = record { moves = told-ready t o new k on; room = omega (arith, had', l, room) }; goes_on = on }

-- ---- a free that is over

-- where it has nothing to do but to tell, it tells that it is over
pub over-told : (a : FreeReply) (fs : List FreeFrame) (p : Pool) → speaks (Ending a ∷ fs) (answered a p fs).0 ≡ true → (answered a p fs).0 ≡ Some (Done a)
over-told a [] p s = refl
over-told a (f ∷ fs) p s = by_test (awaits_run f) (λ u. rw u refl) (λ u. let bad : false ≡ true = rw u at s in cc)

-- ---- which work asks

-- what is asked is no news
pub no-news : (u : FreeStep) (g : FreeFrame) → IsNews u → AsksFor u g → ⊥
no-news (Ask x) g n a = n
no-news (Prepare x) g n a = n
no-news (Drain x) g n a = n
no-news _ g n a = a

pub asks-run : (asked : FreeStep) (f : FreeFrame) → AsksFor asked f → awaits_run f ≡ true
asks-run (Ask x) (Hooked y h) a = refl
asks-run (Prepare x) (Preparing y) a = refl
asks-run (Drain x) (Draining y) a = refl
asks-run asked f a = absurd a

-- only a work that awaits a run asks for it, and it stays
pub asks-waiting : (f : FreeFrame) (fs : List FreeFrame) (p : Pool) (asked : FreeStep) (g : FreeFrame) (t : OpenFrees) → AsksFor asked g → moves (f ∷ fs) p ≡ (Some asked, t) → AsksFor asked f × (t ≡ record { works = f ∷ fs; pool = p })
asks-waiting f fs p asked g t asks e = each (free_step f p) (is_move f p) e
  where
    told : (o : Option FreeStep) (s : OpenFrees) → (let y : Option FreeStep × OpenFrees = (o, s) in y) ≡ (Some asked, t) → (o ≡ Some asked) × (s ≡ t)
    told o s e = (ap (λ (z : Option FreeStep × OpenFrees). z.0) e, ap (λ (z : Option FreeStep × OpenFrees). z.1) e)

    no-end : (a : FreeReply) → Some (Done a) ≡ Some asked → ⊥
    no-end a e = let e' : Done a ≡ asked = cc in subst (λ (z : FreeStep). AsksFor z g) (sym e') asks

    over : (a : FreeReply) (q : Pool) (gs : List FreeFrame) → answered a q gs ≡ (Some asked, t) → ⊥
    over a q [] e = no-end a (told _ _ e).0
    over a q (h ∷ gs) e = by_test (awaits_run h)
        (λ u. let e' : (let y : Option FreeStep × OpenFrees = (Some (Done a), record { works = h ∷ gs; pool = q }) in y) ≡ (Some asked, t) = rw u at e in no-end a (told _ _ e').0)
        (λ u. let e' : (let y : Option FreeStep × OpenFrees = (None, record { works = free_resume h a ∷ gs; pool = q }) in y) ≡ (Some asked, t) = rw u at e in let bad : None ≡ Some asked = (told _ _ e').0 in cc)

    each : (m : FreeMove) → IsMoveOf f p m → moved m fs ≡ (Some asked, t) → AsksFor asked f × (t ≡ record { works = f ∷ fs; pool = p })
    each (Do.Done a q) of e = absurd (over a q fs e)
    each (Do.Go h q) of e = let bad : None ≡ Some asked = (told _ _ e).0 in cc
    each (Do.Call h i q) of e = let bad : None ≡ Some asked = (told _ _ e).0 in cc
    each (Do.Emit s h q) of e =
        let d : Some s ≡ Some asked = (told _ _ e).0 in
        let d' : s ≡ asked = cc in
        absurd (no-news s g of (subst (λ (z : FreeStep). AsksFor z g) (sym d') asks))
    each (Do.Wait s h q) of e =
        let w = told _ _ e in
        let d : Some s ≡ Some asked = w.0 in
        let d' : s ≡ asked = cc in
        let i : record { works = h ∷ fs; pool = q } ≡ t = w.1 in (
          subst (λ (z : FreeStep). AsksFor z f) d' of.2,
          sym i ∙ ap (λ (z : FreeFrame). let o : OpenFrees = record { works = z ∷ fs; pool = q } in o) of.0 ∙ ap (λ (z : Pool). let o : OpenFrees = record { works = f ∷ fs; pool = z } in o) of.1,
        )
