-- Works in which each loop waits for the free above it, whichever child it had named: all else that holds of them is the same.
use Rattle.std.proofs.Common.{◌≡◌, List, [], ◌∷◌, ◌++◌, Option, Some, None, refl, sym, ◌∙◌, ap, subst, arith}
use Rattle.std.specs.Prelude.{unwrap_or}
use Rattle.tree_specs.specs.declared.frame.Frame.{Frame}
use Rattle.tree_specs.specs.declared.frame.Frame.TheVariants as frame
use Rattle.tree_specs.specs.declared.frame.CallFrame.TheVariants.{Awaiting}
use Rattle.tree_specs.specs.declared.frame.TurnFrame.TheVariants.{Clearing}
use Rattle.tree_specs.specs.declared.frame.FreeFrame.TheVariants.{FreeingChild}
use Rattle.tree_specs.specs.declared.frame.RequestFrame.TheVariants.{Releasing}
use Rattle.tree_specs.specs.declared.frame.Purpose.TheVariants.{Removal, Emptying}
use Rattle.tree_specs.specs.declared.object.Obj.{Obj}
use Rattle.tree_specs.specs.Machine.Profiles.{Phase, Waits, AChild, free_profile, profile}
use Rattle.tree_specs.specs.Invariants.Sound.{Footing, MayWait, AllWait, footing, claim, claims}
use Rattle.tree_specs.specs.Invariants.Sound.Footing.{OnFree, OnCall, AtBottom}
use Rattle.tree_specs.specs.Invariants.Queued.{IsThat, IsOfChild, AreOfChildren}
use Rattle.tree_specs.specs.Invariants.Consistent.{IsStacked, Serves, size, sizes}
use Rattle.tree_specs.proofs.Turns.Seats.{reseat-free}

-- a loop below this work waits for its object
abbrev pub named : Frame → Frame → Frame
named (frame.Free f) (frame.Free (FreeingChild x c noted purpose)) = frame.Free (FreeingChild x (unwrap_or (free_profile f).role c) noted purpose)
named f g = g

abbrev pub renamed : Frame → List Frame → List Frame
renamed f [] = []
renamed f (g ∷ gs) = named f g ∷ renamed (named f g) gs

-- ---- what they claim, and what they wait for

claim-named : (x : Obj) (f g : Frame) → claim x (named f g) ≡ claim x g
claim-named x (frame.Free f) (frame.Free (FreeingChild y c noted purpose)) = refl
claim-named x _ _ = refl

pub claims-renamed : (x : Obj) (f : Frame) (gs : List Frame) → claims x (renamed f gs) ≡ claims x gs
claims-renamed x f [] = refl
claims-renamed x f (g ∷ gs) =
    ap (λ (l : List Phase). l ++ claims x (renamed (named f g) gs)) (claim-named x f g) ∙ ap (λ (l : List Phase). claim x g ++ l) (claims-renamed x (named f g) gs)

-- what a work stands on is the work below it alone
same-footing : (g : Frame) (gs hs : List Frame) → footing (g ∷ gs) ≡ footing (g ∷ hs)
same-footing (frame.Call (Awaiting q x)) gs hs = refl
same-footing (frame.Turn (Clearing x)) gs hs = refl
same-footing (frame.Request (Releasing c)) gs hs = refl
same-footing _ gs hs = refl

waits-on : (w : Waits) (f g : Frame) (gs hs : List Frame) → MayWait w (footing (g ∷ gs)) → MayWait w (footing (named f g ∷ hs))
waits-on w (frame.Free f) (frame.Free (FreeingChild x c noted purpose)) gs hs h = child w h
  where
    child : (w : Waits) → MayWait w (OnFree (FreeingChild x c noted purpose)) → MayWait w (OnFree (FreeingChild x (unwrap_or (free_profile f).role c) noted purpose))
    child (AChild d (Removal k)) h = h
    child (AChild d Emptying) h = h
    child _ h = h
waits-on w f g gs hs h = subst (MayWait w) (same-footing g gs hs) h

waits-above : (w : Waits) (f : Frame) (gs : List Frame) → MayWait w (footing gs) → MayWait w (footing (renamed f gs))
waits-above w f [] h = h
waits-above w f (g ∷ gs) h = waits-on w f g gs (renamed (named f g) gs) h

named-waits : (f g : Frame) (on : Footing) → MayWait (profile g).waits on → MayWait (profile (named f g)).waits on
named-waits (frame.Free f) (frame.Free (FreeingChild x c noted purpose)) on h = h
named-waits _ _ on h = h

pub all-wait : (f : Frame) (gs : List Frame) → AllWait gs → AllWait (renamed f gs)
all-wait f [] w = tt
all-wait f (g ∷ gs) w = (named-waits f g _ (waits-above (profile g).waits (named f g) gs w.0), all-wait (named f g) gs w.1)

pub on-call : (f : Frame) (gs : List Frame) → footing gs ≡ OnCall → footing (renamed f gs) ≡ OnCall
on-call f [] e = cc
on-call f (g ∷ gs) e = each f g (renamed (named f g) gs) e
  where
    each : (f g : Frame) (hs : List Frame) → footing (g ∷ gs) ≡ OnCall → footing (named f g ∷ hs) ≡ OnCall
    each (frame.Free f) (frame.Free (FreeingChild x c noted purpose)) hs e = cc
    each f g hs e = sym (same-footing g gs hs) ∙ e

-- ---- where they stand, and what they weigh

serves-named : (f g : Frame) → Serves (profile g).waits f → Serves (profile (named f g)).waits f
serves-named (frame.Free f) (frame.Free (FreeingChild x c noted purpose)) s = s
serves-named _ _ s = s

reseated : (f g : Frame) (gs : List Frame) → IsStacked g gs → IsStacked (named f g) gs
reseated (frame.Free f) (frame.Free (FreeingChild x c noted purpose)) gs s = reseat-free (FreeingChild x c noted purpose) _ gs s
reseated _ _ gs s = s

pub stacked : (f : Frame) (gs : List Frame) → IsStacked f gs → IsStacked f (renamed f gs)
stacked f [] s = s
stacked f (g ∷ gs) s = (serves-named f g s.0, stacked (named f g) gs (reseated f g gs s.1))

size-named : (f g : Frame) → size (named f g) ≡ size g
size-named (frame.Free f) (frame.Free (FreeingChild x c noted purpose)) = refl
size-named _ _ = refl

pub sizes-renamed : (f : Frame) (gs : List Frame) → sizes (renamed f gs) ≡ sizes gs
sizes-renamed f [] = refl
sizes-renamed f (g ∷ gs) = let a = size-named f g in let b = sizes-renamed (named f g) gs in omega (arith, a, b)

-- ---- each loop waits for its child

at-bottom : (f : Frame) → IsOfChild f AtBottom
at-bottom (frame.Free f) = tt
at-bottom _ = tt

of-child : (f g : Frame) (hs : List Frame) → IsOfChild f (footing (named f g ∷ hs))
of-child (frame.Free f) (frame.Free (FreeingChild x c noted purpose)) hs = that (free_profile f).role
  where
    that : (o : Option Obj) → IsThat o (unwrap_or o c)
    that None = tt
    that (Some y) = refl
of-child (frame.Free f) (frame.Call (Awaiting q x)) hs = tt
of-child (frame.Free f) (frame.Turn (Clearing x)) hs = tt
of-child (frame.Free f) (frame.Request (Releasing c)) hs = tt
of-child _ _ hs = tt

pub are-of-children : (f : Frame) (gs : List Frame) → AreOfChildren (f ∷ renamed f gs)
are-of-children f [] = (at-bottom f, tt)
are-of-children f (g ∷ gs) = (of-child f g (renamed (named f g) gs), are-of-children (named f g) gs)
