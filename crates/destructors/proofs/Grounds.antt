-- What the moves of a free rest on, by what holds of a host in which it is innermost.
use Rattle.std.proofs.Common.{◌≡◌, nat_eq, List, [], Option, Some, None, true, false, refl, sym, ◌∙◌, ap}
use Rattle.step_machine.specs.Machine.{Move as Do}
use Rattle.tree_specs.specs.Machine.Profiles.{InRun, InLoop}
use Rattle.tree_specs.specs.declared.frame.Frame.{Frame}
use Rattle.tree_specs.specs.declared.frame.Frame.TheVariants as frame
use Rattle.tree_specs.specs.declared.frame.FreeFrame.{FreeFrame}
use Rattle.tree_specs.specs.declared.frame.FreeFrame.TheVariants.{Unlinking, Releasing, Giving, Beginning, Hooked, Judged, Preparing, Draining, Prepared, Dooming, Leaving, Looping, FreeingChild, AfterChild, Ending}
use Rattle.tree_specs.specs.declared.frame.Purpose.TheVariants.{Removal, Emptying}
use Rattle.tree_specs.specs.declared.free_step.FreeReply.{FreeReply}
use Rattle.tree_specs.specs.declared.free_step.FreeReply.TheVariants.{Ok, Held, Running, Refused as IsRefused}
use Rattle.tree_specs.specs.declared.free_step.FreeStep.TheVariants.{Accepted, Moved as MovedStep, Refused as IsRefusedStep}
use Rattle.tree_specs.specs.declared.object.Obj.{Obj}
use Rattle.tree_specs.specs.declared.object.Owner.{Owner}
use Rattle.tree_specs.specs.declared.object.Owner.TheVariants.{Of}
use Rattle.tree_specs.specs.declared.row.Row.{Row}
use Rattle.tree_specs.specs.declared.row.Mark.{Mark}
use Rattle.tree_specs.specs.declared.row.Mark.TheVariants.{Quiet, Asked, Busy, Doomed, Dying}
use Rattle.tree_specs.specs.Tree.Pool.{Pool, row_of, is_below, owner_of, first_kid, target_at, is_dying_mark, set_mark, set_hook, place}
use Rattle.tree_specs.specs.Tree.Heirs.{heir}
use Rattle.tree_specs.specs.Machine.FreeTable.{free_step, judge_step, child_step, loop_step, hand_on_step}
use Rattle.tree_specs.specs.Invariants.Sound.{claim, claims, IsLive, Sound}
use Rattle.tree_specs.specs.Invariants.Sound.{MayBePlaced}
use Rattle.tree_specs.proofs.Tree.Numbered.{by_test}
use Rattle.tree_specs.proofs.Invariants.Changes.{dying-row, running-row, claim-here, heir-placed}
use Rattle.tree_links.specs.Links.{MayPlace}
use Rattle.destructors.specs.Moves.{IsLiveRow, MayHandOn, MoveRests}

-- ---- what a move rests on

pub live-row : (p : Pool) (x : Obj) (r : Row) → row_of p.rows x ≡ Some r → IsLive r.mark → IsLiveRow p x
live-row p x r e live = (rw e refl, rw e (each r.mark live))
  where
    each : (m : Mark) → IsLive m → (elim m [ Quiet ↦ false | Asked ↦ false | Busy ↦ false | Doomed ↦ false | Dying former ↦ true ]) ≡ false
    each (Dying former) l = absurd l
    each _ l = refl

-- an object that isn't refused another owner may be put below it
pub placeable : (p : Pool) (o : Owner) (x : Obj) → MayBePlaced p o x → MayPlace p.rows x o
placeable p o x may = let live = live-row p x may.row may.is may.live in record { is = live.0; live = live.1; there = may.there; apart = may.outside }

hands-on : (x c : Obj) (noted : Option Owner) (f : Frame) (fs : List Frame) (p : Pool) → Sound f fs p → MayHandOn p x c noted
hands-on x c noted f fs p s = λ below. placeable p (heir p.rows x c noted) c (heir-placed x c noted f fs p s below)

pub rests : (f : FreeFrame) (fs : List Frame) (p : Pool) → Sound (frame.Free f) fs p → MoveRests f p
rests (Giving x o) fs p s = placeable p o x s.rests
rests (Prepared x) fs p s =
    let row = running-row (row_of p.rows x) (claims x fs) (claim-here x InRun (claims x fs) (row_of p.rows x) (s.open_frees x)) in
    live-row p x row.0 row.1 row.2
rests (Judged x h v) fs p s =
    let row = running-row (row_of p.rows x) (claims x fs) (claim-here x InRun (claims x fs) (row_of p.rows x) (s.open_frees x)) in
    live-row p x row.0 row.1 row.2
rests (Leaving x h) fs p s = live-row p x s.rests.0 s.rests.1 s.rests.2
rests (Looping x (Removal h)) fs p s =
    let row = dying-row (row_of p.rows x) (claims x fs) (claim-here x InLoop (claims x fs) (row_of p.rows x) (s.open_frees x)) in
    (rw (row.1, row.3) refl, quiet-row row.0 row.1 (ap is_dying_mark row.3) (target_at p.rows x) refl)
  where
    quiet-row : (r : Row) → row_of p.rows x ≡ Some r → is_dying_mark r.mark ≡ true → (o : Option Obj) → target_at p.rows x ≡ o → target_at p.rows x ≡ None
    quiet-row r e d None q = q
    quiet-row r e d (Some t) q =
        let still : r.mark ≡ Quiet = rw e at (s.refers.quiet x t q) in
        let bad : false ≡ true = ap is_dying_mark (sym still) ∙ d in cc
rests (AfterChild x c noted purpose a) fs p s = hands-on x c noted _ fs p s
rests _ fs p s = tt

-- a work that ends claims nothing
pub claimless : (f : FreeFrame) (fs : List Frame) (p : Pool) (a : FreeReply) → Sound (frame.Free f) fs p → free_step f p ≡ Do.Done a p → (x : Obj) → claim x (frame.Free f) ≡ []
claimless (Unlinking o y) fs p a s e x = refl
claimless (Releasing y) fs p a s e x = refl
claimless (Giving y o) fs p a s e x = refl
claimless (Beginning y) fs p a s e x = refl
claimless (Dooming y) fs p a s e x = refl
claimless (Ending b) fs p a s e x = refl
claimless (Looping y Emptying) fs p a s e x = refl
claimless (Hooked y h) fs p a s e x = cc
claimless (Preparing y) fs p a s e x = cc
claimless (Draining y) fs p a s e x = cc
claimless (Prepared y) fs p a s e x = cc
claimless (Leaving y h) fs p a s e x = cc
claimless (FreeingChild y c noted purpose) fs p a s e x = absurd s.rests
claimless (Judged y h v) fs p a s e x = absurd (by_test (nat_eq v 0) (λ t. let e' : judge_step y h v p ≡ Do.Done a p = e in judged e' t) (λ t. judged-not e t))
  where
    judged : judge_step y h v p ≡ Do.Done a p → nat_eq v 0 ≡ true → ⊥
    judged e t = let e' : Do.Emit (Accepted y) (Leaving y h) (set_hook p y 0) ≡ Do.Done a p = rw t at e in cc

    judged-not : judge_step y h v p ≡ Do.Done a p → nat_eq v 0 ≡ false → ⊥
    judged-not e t = let e' : Do.Emit (IsRefusedStep y v) (Ending (IsRefused v)) (set_mark p y Quiet) ≡ Do.Done a p = rw t at e in cc
claimless (Looping y (Removal h)) fs p a s e x = absurd (each (first_kid p.rows (Of y)) e)
  where
    child : (c : Obj) (t : Option Obj) → child_step y c (Removal h) t p ≡ Do.Done a p → ⊥
    child c None e = cc
    child c (Some t) e = cc

    each : (o : Option Obj) → loop_step y (Removal h) o p ≡ Do.Done a p → ⊥
    each None e = cc
    each (Some c) e = child c (target_at p.rows c) e
claimless (AfterChild y c noted purpose b) fs p a s e x = absurd (each b e)
  where
    handed : hand_on_step y c noted purpose p ≡ Do.Done a p → ⊥
    handed e = by_test (is_below (owner_of p.rows c) (Of y))
        (λ t. let e' : Do.Emit (MovedStep c (Of y) (heir p.rows y c noted)) (Looping y purpose) (place p (heir p.rows y c noted) c) ≡ Do.Done a p = rw t at e in cc)
        (λ t. let e' : Do.Go (Looping y purpose) p ≡ Do.Done a p = rw t at e in cc)

    each : (b : FreeReply) → free_step (AfterChild y c noted purpose b) p ≡ Do.Done a p → ⊥
    each Ok e = cc
    each Held e = handed e
    each Running e = handed e
    each (IsRefused v) e = handed e
