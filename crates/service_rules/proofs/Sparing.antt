-- Works that spare an event, and the freeing of its owner.
use Rattle.std.proofs.Common.{◌≡◌, ◌≢◌, ℕ, true, List, [], ◌∷◌, Some, ◌⊎◌, inl, inr}
use Rattle.step_machine.specs.Machine.{Move as Do}
use Rattle.tree_specs.specs.declared.object.Obj.{Obj}
use Rattle.tree_specs.specs.declared.event.Event.{Event}
use Rattle.tree_specs.specs.declared.event.Event.TheVariants as event
use Rattle.tree_specs.specs.declared.question.Input.{Input}
use Rattle.tree_specs.specs.declared.frame.Frame.{Frame}
use Rattle.tree_specs.specs.declared.frame.Frame.TheVariants as frame
use Rattle.tree_specs.specs.declared.frame.FreeFrame.{FreeFrame}
use Rattle.tree_specs.specs.declared.frame.FreeFrame.TheVariants.{Unlinking, Releasing, Giving, Beginning, Hooked, Judged, Preparing, Prepared, Dooming, Draining, Leaving, Looping, FreeingChild, AfterChild, Ending}
use Rattle.tree_specs.specs.declared.frame.Purpose.{Purpose}
use Rattle.tree_specs.specs.declared.frame.Purpose.TheVariants.{Removal, Emptying}
use Rattle.tree_specs.specs.declared.frame.TurnFrame.{TurnFrame}
use Rattle.tree_specs.specs.declared.frame.TurnFrame.TheVariants.{Firing, Handling, Handled}
use Rattle.tree_specs.specs.declared.frame.Answer.{Answer}
use Rattle.tree_specs.specs.Events.Coming.{is_once}
use Rattle.tree_specs.specs.Rules.Items.Item.{Told, Asked}
use Rattle.tree_specs.specs.Tree.Pool.{Pool}
use Rattle.tree_specs.specs.Machine.Table.{Step, resume, freeing_resume, turn_resume, taken}
use Rattle.service_rules.proofs.Tending.{Tended}

-- an object's children are freed, and it isn't removed then
abbrev pub IsNoEmptying : Obj → Purpose → Obj → Type 0
IsNoEmptying k (Removal h) x = Unit {0}
IsNoEmptying k Emptying x = x ≢ k

module _ (e k : Obj) where
  -- a free of another object
  abbrev pub SparesFree : FreeFrame → Type 0
  SparesFree (Unlinking o x) = x ≢ e
  SparesFree (Releasing x) = x ≢ e
  SparesFree (Giving x o) = x ≢ e
  SparesFree (Beginning x) = x ≢ e
  SparesFree (Hooked x h) = x ≢ e
  SparesFree (Judged x h v) = x ≢ e
  SparesFree (Preparing x) = x ≢ e
  SparesFree (Draining x) = x ≢ e
  SparesFree (Prepared x) = x ≢ e
  SparesFree (Dooming x) = x ≢ e
  SparesFree (Leaving x h) = x ≢ e
  SparesFree (Looping x purpose) = (x ≢ e) × IsNoEmptying k purpose x
  SparesFree (FreeingChild x c noted purpose) = (x ≢ e) × IsNoEmptying k purpose x × (c ≢ e)
  SparesFree (AfterChild x c noted purpose a) = (x ≢ e) × IsNoEmptying k purpose x × (c ≢ e)
  SparesFree (Ending a) = Unit {0}

  -- a handler that runs once is another event's
  abbrev pub SparesTurn : TurnFrame → Type 0
  SparesTurn (Firing what x handler occasion) = is_once what ≡ true → x ≢ e
  SparesTurn (Handling what x handler occasion) = is_once what ≡ true → x ≢ e
  SparesTurn (Handled what x) = is_once what ≡ true → x ≢ e
  SparesTurn f = Unit {0}

  abbrev pub Spares : Frame → Type 0
  Spares (frame.Free f) = SparesFree f
  Spares (frame.Turn f) = SparesTurn f
  Spares f = Unit {0}

  abbrev pub AllSpare : List Frame → Type 0
  AllSpare [] = Unit {0}
  AllSpare (f ∷ fs) = Spares f × AllSpare fs

  -- its owner is being removed
  abbrev pub Removes : FreeFrame → Type 0
  Removes (Looping x (Removal h)) = x ≡ k
  Removes (FreeingChild x c noted (Removal h)) = x ≡ k
  Removes (AfterChild x c noted (Removal h) a) = x ≡ k
  Removes f = ⊥

  abbrev pub Removing : List Frame → Type 0
  Removing [] = ⊥
  Removing (frame.Free f ∷ fs) = Removes f ⊎ Removing fs
  Removing (f ∷ fs) = Removing fs

  -- the event is as it was, or its owner is being removed
  abbrev pub Tends : ℕ → Frame → List Frame → Pool → Type 0
  Tends fd f fs p = (Tended e k fd p × AllSpare (f ∷ fs)) ⊎ Removing (f ∷ fs)

  -- until the owner is no more
  abbrev pub Unless : Event → Type 0 → Type 0
  Unless (event.Freed x hook) T = x ≢ k → T
  Unless ev T = T

  abbrev pub LeadsTends : ℕ → Step → List Frame → Type 0
  LeadsTends fd (Do.Done a q) [] = Unit {0}
  LeadsTends fd (Do.Done a q) (g ∷ gs) = Tends fd (resume g a) gs q
  LeadsTends fd (Do.Go g q) fs = Tends fd g fs q
  LeadsTends fd (Do.Emit (Told ev) g q) fs = Unless ev (Tends fd g fs q)
  LeadsTends fd (Do.Emit (Asked a) g q) fs = Unit {0}
  LeadsTends fd (Do.Wait i g r) fs = (j : Input) (h : Frame) → taken g r j ≡ Some h → Tends fd h fs r
  LeadsTends fd (Do.Call h g q) fs = Tends fd h (g ∷ fs) q

  -- ---- what waits goes on

  pub under : (g : Frame) (fs : List Frame) → Removing fs → Removing (g ∷ fs)
  under (frame.Free f) fs r = inr r
  under (frame.Call f) fs r = r
  under (frame.Turn f) fs r = r
  under (frame.Outside f) fs r = r
  under (frame.Request f) fs r = r

  removes-on : (f : FreeFrame) (a : Answer) → Removes f → Removes (freeing_resume f a)
  removes-on (Looping x (Removal h)) a r = r
  removes-on (Looping x Emptying) a r = absurd r
  removes-on (FreeingChild x c noted (Removal h)) a r = r
  removes-on (FreeingChild x c noted Emptying) a r = absurd r
  removes-on (AfterChild x c noted (Removal h) b) a r = r
  removes-on (AfterChild x c noted Emptying b) a r = absurd r
  removes-on _ a r = absurd r

  pub removing-on : (g : Frame) (gs : List Frame) (a : Answer) → Removing (g ∷ gs) → Removing (resume g a ∷ gs)
  removing-on (frame.Free f) gs a (inl r) = inl (removes-on f a r)
  removing-on (frame.Free f) gs a (inr r) = inr r
  removing-on (frame.Call f) gs a r = r
  removing-on (frame.Turn f) gs a r = r
  removing-on (frame.Outside f) gs a r = r
  removing-on (frame.Request f) gs a r = r

  free-on : (f : FreeFrame) (a : Answer) → SparesFree f → SparesFree (freeing_resume f a)
  free-on (Hooked x h) a s = s
  free-on (Preparing x) a s = s
  free-on (Draining x) a s = s
  free-on (FreeingChild x c noted purpose) a s = s
  free-on (Unlinking o x) a s = s
  free-on (Releasing x) a s = s
  free-on (Giving x o) a s = s
  free-on (Beginning x) a s = s
  free-on (Judged x h v) a s = s
  free-on (Prepared x) a s = s
  free-on (Dooming x) a s = s
  free-on (Leaving x h) a s = s
  free-on (Looping x purpose) a s = s
  free-on (AfterChild x c noted purpose b) a s = s
  free-on (Ending b) a s = s

  turn-on : (f : TurnFrame) → SparesTurn f → SparesTurn (turn_resume f)
  turn-on (Handling what x handler occasion) s = s
  turn-on (Firing what x handler occasion) s = s
  turn-on (Handled what x) s = s
  turn-on _ s = tt

  pub spares-on : (g : Frame) (a : Answer) → Spares g → Spares (resume g a)
  spares-on (frame.Free f) a s = free-on f a s
  spares-on (frame.Turn f) a s = turn-on f s
  spares-on (frame.Call f) a s = tt
  spares-on (frame.Outside f) a s = tt
  spares-on (frame.Request f) a s = tt

  pub done-tends : (fd : ℕ) (a : Answer) (q : Pool) (fs : List Frame) → (Tended e k fd q × AllSpare fs) ⊎ Removing fs → LeadsTends fd (Do.Done a q) fs
  done-tends fd a q [] w = tt
  done-tends fd a q (g ∷ gs) (inl w) = inl (w.0, (spares-on g a w.1.0, w.1.1))
  done-tends fd a q (g ∷ gs) (inr r) = inr (removing-on g gs a r)

  -- ---- the owner is being removed below the work that goes on

  pub unless-any : (ev : Event) (T : Type 0) → T → Unless ev T
  unless-any (event.Freed x hook) T t = λ ne. t
  unless-any _ T t = t

  pub below-tends : (fd : ℕ) (m : Step) (fs : List Frame) → Removing fs → LeadsTends fd m fs
  below-tends fd (Do.Done a q) fs r = done-tends fd a q fs (inr r)
  below-tends fd (Do.Go g q) fs r = inr (under g fs r)
  below-tends fd (Do.Emit (Told ev) g q) fs r = unless-any ev _ (inr (under g fs r))
  below-tends fd (Do.Emit (Asked a) g q) fs r = tt
  below-tends fd (Do.Wait i g q) fs r = λ j h t. inr (under h fs r)
  below-tends fd (Do.Call h g q) fs r = inr (under h (g ∷ fs) (under g fs r))
