-- Each step of a host spares a tended event, where the call that is done does.
use Rattle.std.proofs.Common.{ℕ, ◌<◌, List, refl, ◌⊎◌, inl, inr}
use Rattle.tree_specs.specs.declared.object.Obj.{Obj}
use Rattle.tree_specs.specs.declared.call.Call.{Call}
use Rattle.tree_specs.specs.declared.question.Ask.{Ask}
use Rattle.tree_specs.specs.declared.frame.Frame.{Frame}
use Rattle.tree_specs.specs.declared.frame.Frame.TheVariants as frame
use Rattle.tree_specs.specs.declared.frame.CallFrame.{CallFrame}
use Rattle.tree_specs.specs.declared.frame.CallFrame.TheVariants.{Asking, Doing, Awaiting, Turning, Requesting, Announcing, Telling, Returning}
use Rattle.tree_specs.specs.declared.frame.OutsideFrame.{OutsideFrame}
use Rattle.tree_specs.specs.declared.frame.OutsideFrame.TheVariants.{Reaching, Opening, Hearing}
use Rattle.tree_specs.specs.Tree.Pool.{Pool, open_descriptor}
use Rattle.tree_specs.specs.Calls.Plans.{planned_at}
use Rattle.tree_specs.specs.Rules.Pieces.{notice_event}
use Rattle.tree_specs.specs.Machine.Table.{step, plan_step}
use Rattle.tree_specs.specs.Invariants.Consistent.{IsConsistent}
use Rattle.tree_specs.proofs.Calls.Checks.{Heard, heard-leads, Reached, reached-leads}
use Rattle.tree_specs.proofs.Calls.Checks.Heard.{HeardCall, HeardReturn}
use Rattle.tree_specs.proofs.Calls.Checks.Reached.{ReachedOpening, ReachedHearing}
use Rattle.service_rules.proofs.Tending.{Tended, tended-on, no-more}
use Rattle.service_rules.proofs.Sparing.{AllSpare, Removing, Tends, LeadsTends, done-tends, below-tends, unless-any}
use Rattle.service_rules.proofs.SparingFrees.{free-tends}
use Rattle.service_rules.proofs.SparingWorks.{turn-tends, request-tends}
use Rattle.service_rules.proofs.SparingCalls.{SparesCall, call-spares}

module _ (e k : Obj) (fd : ℕ) (fs : List Frame) (p : Pool) where
  -- the call that is done spares it
  abbrev pub SparedBy : Frame → Type 0
  SparedBy (frame.Call (Doing q c)) = Tended e k fd p → SparesCall e k fd c
  SparedBy f = Unit {0}

  -- callers, and works of the outside, free nothing themselves
  abbrev pub Under : Type 0
  Under = (Tended e k fd p × AllSpare e k fs) ⊎ Removing e k fs

  pub under-call : (f : CallFrame) → Tends e k fd (frame.Call f) fs p → Under
  under-call f (inl w) = inl (w.0, w.1.1)
  under-call f (inr r) = inr r

  pub call-on : (f : CallFrame) → Under → Tends e k fd (frame.Call f) fs p
  call-on f (inl w) = inl (w.0, (tt, w.1))
  call-on f (inr r) = inr r

  under-outside : (f : OutsideFrame) → Tends e k fd (frame.Outside f) fs p → Under
  under-outside f (inl w) = inl (w.0, w.1.1)
  under-outside f (inr r) = inr r

  outside-on : (f : OutsideFrame) → Under → Tends e k fd (frame.Outside f) fs p
  outside-on f (inl w) = inl (w.0, (tt, w.1))
  outside-on f (inr r) = inr r

  asked-tends : (q : Ask) (g : Frame) → Heard q g → Under → Tends e k fd g fs p
  asked-tends q _ (HeardCall c) w = call-on (Doing q c) w
  asked-tends q _ (HeardReturn v o) w = call-on (Returning v) w

  reached-tends : (g : Frame) → Reached p g → Under → Tends e k fd g fs p
  reached-tends _ (ReachedOpening n number closed) w = outside-on (Opening n) w
  reached-tends _ (ReachedHearing r) w = outside-on (Hearing r) w

  doing-tends : (q : Ask) (c : Call) → e.0 < p.next → (Tended e k fd p → SparesCall e k fd c) → Under → LeadsTends e k fd (plan_step q (planned_at q p c) p) fs
  doing-tends q c young spares (inl w) = call-spares e k fd fs p young w.0 w.1 q c (spares w.0)
  doing-tends q c young spares (inr r) = below-tends e k fd (plan_step q (planned_at q p c) p) fs r

  opened : (n : ℕ) → Under → (Tended e k fd (open_descriptor p n) × AllSpare e k fs) ⊎ Removing e k fs
  opened n (inl w) = inl (tended-on e k fd p w.0 (open_descriptor p n) refl refl (no-more e k fd p w.0 (open_descriptor p n) refl), w.1)
  opened n (inr r) = inr r

  pub step-tends : (f : Frame) → IsConsistent (record { innermost = f; below = fs; pool = p }) → e.0 < p.next → SparedBy f → Tends e k fd f fs p → LeadsTends e k fd (step f p) fs
  step-tends (frame.Free f) whole young s t = free-tends e k fd fs p f whole t
  step-tends (frame.Turn f) whole young s t = turn-tends e k fd fs p f whole t
  step-tends (frame.Request f) whole young s t = request-tends e k fd fs p f whole t
  step-tends (frame.Outside (Reaching q)) whole young s t = λ i g h. reached-tends g (reached-leads p q i g h) (under-outside (Reaching q) t)
  step-tends (frame.Outside (Opening n)) whole young s t = done-tends e k fd _ (open_descriptor p n) fs (opened n (under-outside (Opening n) t))
  step-tends (frame.Outside (Hearing r)) whole young s t = done-tends e k fd _ p fs (under-outside (Hearing r) t)
  step-tends (frame.Call (Asking q)) whole young s t = λ i g h. asked-tends q g (heard-leads q i g h) (under-call (Asking q) t)
  step-tends (frame.Call (Doing q c)) whole young s t = doing-tends q c young s (under-call (Doing q c) t)
  step-tends (frame.Call (Announcing q notice r)) whole young s t = unless-any e k (notice_event notice) _ (call-on (Telling q r) (under-call (Announcing q notice r) t))
  step-tends (frame.Call (Telling q r)) whole young s t = call-on (Asking q) (under-call (Telling q r) t)
  step-tends (frame.Call (Awaiting q x)) whole young s t = done-tends e k fd _ p fs (under-call (Awaiting q x) t)
  step-tends (frame.Call (Turning q)) whole young s t = done-tends e k fd _ p fs (under-call (Turning q) t)
  step-tends (frame.Call (Requesting q)) whole young s t = done-tends e k fd _ p fs (under-call (Requesting q) t)
  step-tends (frame.Call (Returning v)) whole young s t = done-tends e k fd _ p fs (under-call (Returning v) t)
