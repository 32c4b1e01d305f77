-- A queue whose entries are freed stands below as a request that is received.
use Rattle.std.proofs.Common.{◌≡◌, List, [], ◌∷◌, map, false, refl}
use Rattle.tree_specs.specs.declared.frame.Frame.{Frame}
use Rattle.tree_specs.specs.declared.frame.Frame.TheVariants as frame
use Rattle.tree_specs.specs.declared.frame.CallFrame.TheVariants.{Awaiting}
use Rattle.tree_specs.specs.declared.frame.TurnFrame.TheVariants.{Clearing}
use Rattle.tree_specs.specs.declared.frame.FreeFrame.{FreeFrame}
use Rattle.tree_specs.specs.declared.frame.FreeFrame.TheVariants.{Draining}
use Rattle.tree_specs.specs.declared.frame.RequestFrame.TheVariants.{Releasing, Dropping}
use Rattle.tree_specs.specs.declared.object.Obj.{Obj}
use Rattle.tree_specs.specs.Invariants.Sound.{Drains, AllWait, footing}
use Rattle.tree_specs.specs.Invariants.Sound.Footing.{OnDropping}
use Rattle.destructors.specs.Frees.{awaits_run}
use Rattle.destructors.specs.Works.{frees_among, as_received}

pub received-waits : (f : FreeFrame) → awaits_run (as_received f) ≡ awaits_run f
received-waits (Draining x) = refl
received-waits _ = refl

-- what waits for a free is the same
pub unreceived : (f : FreeFrame) → awaits_run f ≡ false → as_received f ≡ f
unreceived (Draining x) n = cc
unreceived _ n = refl

no-drain : (x : Obj) (f : FreeFrame) → Draining x ≡ as_received f → ⊥
no-drain x (Draining y) e = cc
no-drain x _ e = cc

-- no entry of a queue is freed by works among which each queue stands so
pub undropped : (gs : List Frame) (fs : List FreeFrame) → frees_among gs ≡ map as_received fs → AllWait gs → footing gs ≡ OnDropping → ⊥
undropped (frame.Request (Dropping q e) ∷ gs) fs frees w on = each gs frees w.0
  where
    drain : (x : Obj) (hs : List Frame) (fs : List FreeFrame) → Draining x ∷ frees_among hs ≡ map as_received fs → ⊥
    drain x hs [] e = cc
    drain x hs (f ∷ fs) e = let is : Draining x ≡ as_received f = cc in no-drain x f is

    each : (hs : List Frame) → frees_among hs ≡ map as_received fs → Drains q (footing hs) → ⊥
    each (frame.Free (Draining x) ∷ hs) e d = drain x hs fs e
    each (frame.Call (Awaiting a y) ∷ hs) e d = absurd d
    each (frame.Turn (Clearing y) ∷ hs) e d = absurd d
    each (frame.Request (Releasing c) ∷ hs) e d = absurd d
    each _ e d = absurd d
undropped (frame.Call (Awaiting a y) ∷ gs) fs frees w on = cc
undropped (frame.Turn (Clearing y) ∷ gs) fs frees w on = cc
undropped _ fs frees w on = cc
