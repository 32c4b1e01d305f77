-- Objects of which a turn says that their handler runs, or that it has returned.
use Rattle.std.proofs.Common.{◌≡◌, Bool, true, false, ◌&&◌, List, Option, Some, None, refl}
use Rattle.tree_specs.specs.declared.moment.What.{What}
use Rattle.tree_specs.specs.declared.moment.What.TheVariants.{Descriptor}
use Rattle.tree_specs.specs.declared.object.Obj.{Obj}
use Rattle.tree_specs.specs.declared.row.Row.{Row}
use Rattle.tree_specs.specs.declared.row.Mark.{Mark}
use Rattle.tree_specs.specs.declared.row.Mark.TheVariants.{Quiet, Asked, Dying}
use Rattle.tree_specs.specs.Invariants.Sound.{IsTurning, is_at_turn_mark}
use Rattle.tree_specs.specs.Tree.Pool.{Pool, row_of, is_row, is_dying, is_dying_mark, is_context_row, is_usable_row, is_usable}
use Rattle.tree_specs.specs.Tree.Targets.{is_context, is_usable_mark}
use Rattle.tree_specs.specs.Words.Objects.{same, first_context}
use Rattle.tree_specs.specs.Events.Coming.{rotated}
use Rattle.tree_specs.specs.Promises.Grounded.{is_asked, is_asked_mark}
use Rattle.destructors.specs.Room.{mark_places}

live-places : (m : Mark) → is_dying_mark m ≡ false → is_asked_mark m ≡ false → mark_places m ≡ 1
live-places (Dying former) e a = cc
live-places Asked e a = cc
live-places _ e a = refl

-- an object that doesn't die and isn't asked, as the room for the open frees sees it
pub live-row : (p : Pool) (x : Obj) → is_row p.rows x ≡ true → is_dying p.rows x ≡ false → is_asked p x ≡ false → (r : Row) × (row_of p.rows x ≡ Some r) × (mark_places r.mark ≡ 1)
live-row p x is live unasked = each (row_of p.rows x) refl
  where
    each : (o : Option Row) → row_of p.rows x ≡ o → (r : Row) × (row_of p.rows x ≡ Some r) × (mark_places r.mark ≡ 1)
    each None e = let bad : false ≡ true = rw e at is in cc
    each (Some r) e = (r, e, live-places r.mark (rw e at live) (rw e at unasked))

-- an event that is looked at later leaves the rows
pub rotated-rows : (what : What) (x : Obj) (p : Pool) → (rotated what x p).rows ≡ p.rows
rotated-rows Descriptor x p = refl
rotated-rows _ x p = refl

-- a context that is usable, where it is an object
pub usable-row : (rs : List Row) (c : Obj) → same c first_context ≡ false → is_usable rs c ≡ true → (r : Row) × (row_of rs c ≡ Some r) × (mark_places r.mark ≡ 1)
usable-row rs c other usable = each (row_of rs c) refl (rw other at usable)
  where
    places : (m : Mark) → is_usable_mark m ≡ true → mark_places m ≡ 1
    places Asked e = cc
    places (Dying former) e = cc
    places _ e = refl

    second : (a b : Bool) → (a && b) ≡ true → b ≡ true
    second true b e = e
    second false b e = cc

    each : (o : Option Row) → row_of rs c ≡ o → (is_context_row (row_of rs c) && is_usable_row (row_of rs c)) ≡ true → (r : Row) × (row_of rs c ≡ Some r) × (mark_places r.mark ≡ 1)
    each None e h = let bad : false ≡ true = rw e at h in cc
    each (Some r) e h = (r, e, places r.mark (second (is_context r.kind) (is_usable_mark r.mark) (rw e at h)))

-- a context whose turn is under way
pub turning-row : (rs : List Row) (c : Obj) → IsTurning (row_of rs c) → (r : Row) × (row_of rs c ≡ Some r) × (mark_places r.mark ≡ 1)
turning-row rs c turning = each (row_of rs c) refl turning
  where
    places : (m : Mark) → is_at_turn_mark m ≡ true → mark_places m ≡ 1
    places Quiet e = refl
    places Asked e = cc
    places (Dying former) e = cc
    places _ e = refl

    each : (o : Option Row) → row_of rs c ≡ o → IsTurning o → (r : Row) × (row_of rs c ≡ Some r) × (mark_places r.mark ≡ 1)
    each None e t = absurd t
    each (Some r) e t = (r, e, places r.mark t.1)
