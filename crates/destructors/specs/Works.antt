-- What an engine keeps of the open frees between its calls: that they are those of a host in which everything holds that always does.
use Rattle.std.specs.Prelude.{◌≡◌, List, [], ◌∷◌, map}
use Rattle.tree_specs.specs.declared.object.Obj.{Obj}
use Rattle.tree_specs.specs.declared.frame.Frame.{Frame}
use Rattle.tree_specs.specs.declared.frame.Frame.TheVariants as frame
use Rattle.tree_specs.specs.declared.frame.FreeFrame.{FreeFrame}
use Rattle.tree_specs.specs.declared.frame.FreeFrame.TheVariants.{Preparing, Draining, Ending}
use Rattle.tree_specs.specs.declared.free_step.FreeReply.TheVariants.{Ok}
use Rattle.tree_specs.specs.declared.free_step.FreeStep.{FreeStep}
use Rattle.tree_specs.specs.declared.free_step.FreeStep.TheVariants.{Ask, Prepare, Drain, Done}
use Rattle.tree_specs.specs.Tree.Pool.{Pool}
use Rattle.tree_specs.specs.Machine.Profiles.{Phase}
use Rattle.tree_specs.specs.Invariants.Sound.{Sound, FreeRests, footing, claim}
use Rattle.tree_specs.specs.Invariants.Sound.Footing.{OnCall}
use Rattle.tree_specs.specs.Invariants.Consistent.{IsStacked, IsPaidFor, innermost_size}
use Rattle.destructors.specs.Frees.{OpenFrees}

-- the frees among the works of a host
abbrev pub frees_among : List Frame → List FreeFrame
frees_among [] = []
frees_among (frame.Free f ∷ fs) = f ∷ frees_among fs
frees_among (f ∷ fs) = frees_among fs

-- no turn stands on a free
abbrev pub AreTurnsLast : List Frame → Type 0
AreTurnsLast [] = Unit {0}
AreTurnsLast (frame.Turn t ∷ fs) = (frees_among fs ≡ []) × AreTurnsLast fs
AreTurnsLast (f ∷ fs) = AreTurnsLast fs

-- While the entries of a queue are freed any free may begin, as while a request is received. So a queue that waits for this stands
-- in the host as such a request does.
abbrev pub as_received : FreeFrame → FreeFrame
as_received (Draining x) = Preparing x
as_received f = f

-- This work of a free is innermost in some host, and these are the frees below it, with each queue as a request.
pub record IsHosted (f : FreeFrame) (fs : List FreeFrame) (p : Pool) : Type 0 where
  pub below : List Frame
  pub frees : frees_among below ≡ map as_received fs
  pub sound : Sound (frame.Free f) below p
  pub seated : IsStacked (frame.Free f) below
  pub light : IsPaidFor (frame.Free f) below p
  pub turns : AreTurnsLast below

-- the innermost free is at work, and the others wait
abbrev pub AtWork : List FreeFrame → Pool → Type 0
AtWork [] p = ⊥
AtWork (f ∷ fs) p = IsHosted f fs p

abbrev pub IsAtWork : OpenFrees → Type 0
IsAtWork s = AtWork s.works s.pool

-- whoever waits for a free that is over may begin another one, and the open frees wait for him
pub record AreAwaiting (fs : List FreeFrame) (p : Pool) : Type 0 where
  pub over : IsHosted (Ending Ok) fs p
  pub on : footing over.below ≡ OnCall

abbrev pub IsAwaiting : OpenFrees → Type 0
IsAwaiting s = AreAwaiting s.works s.pool

-- what holds after a step
abbrev pub GoesOn : FreeStep → OpenFrees → Type 0
GoesOn (Ask x) s = IsAwaiting s
GoesOn (Prepare x) s = IsAwaiting s
GoesOn (Drain x) s = IsAwaiting s
GoesOn (Done a) s = IsAwaiting s
GoesOn _ s = IsAtWork s

-- a work that claims nothing, rests on the call that it is for, and takes no place of its own
pub record MayBegin (f : FreeFrame) (p : Pool) : Type 0 where
  pub claims_nothing : (x : Obj) → claim x (frame.Free f) ≡ []
  pub rests : (claimed : Obj → List Phase) → FreeRests f OnCall claimed p
  pub small : innermost_size (frame.Free f) ≡ 0
