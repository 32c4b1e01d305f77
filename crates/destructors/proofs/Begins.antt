-- A free that begins, or is answered, is at work.
use Rattle.std.proofs.Common.{◌≡◌, ℕ, ◌+◌, ◌≤◌, List, [], ◌∷◌, length, Option, Some, None, true, false, nat_eq, refl, ◌∙◌, ap, inl, arith}
use Rattle.tree_specs.specs.declared.frame.FreeFrame.{FreeFrame}
use Rattle.tree_specs.specs.declared.frame.FreeFrame.TheVariants.{Unlinking, Beginning, Hooked, Preparing, Draining, Leaving, Looping}
use Rattle.tree_specs.specs.declared.frame.Purpose.TheVariants.{Emptying}
use Rattle.tree_specs.specs.declared.object.Obj.{Obj}
use Rattle.tree_specs.specs.declared.row.Row.{Row}
use Rattle.tree_specs.specs.declared.row.Mark.{Mark}
use Rattle.tree_specs.specs.declared.row.Mark.TheVariants as mark
use Rattle.tree_specs.specs.declared.row.Mark.TheVariants.{Dying}
use Rattle.tree_specs.specs.Tree.Inside.{total}
use Rattle.tree_specs.specs.Tree.Pool.{Pool, row_of, target_at, is_dying_mark}
use Rattle.tree_specs.specs.Tree.Targets.{target_of, newest_ref}
use Rattle.tree_specs.specs.declared.object.Owner.{Owner}
use Rattle.tree_specs.specs.Invariants.Sound.{IsLive}
use Rattle.std.specs.Prelude.{unwrap_or}
use Rattle.tree_specs.specs.Machine.FreeTable.{free_taken}
use Rattle.tree_specs.proofs.Tree.Numbered.{by_test}
use Rattle.tree_links.specs.Links.{Links, pool_of}
use Rattle.destructors.specs.Moves.{IsLiveRow}
use Rattle.destructors.specs.Room.{mark_places, row_places, work_places, wanted}
use Rattle.destructors.specs.Engine.{IsAsked, IsPreparing, HasRoom, HasRoomFor, IsBetweenCalls}
use Rattle.destructors.specs.Frees.{before, frees_of, awaits_run, was_prepared, speaking}
use Rattle.destructors.specs.Works.{AtWork, IsAwaiting, MayBegin}
use Rattle.destructors.proofs.Hosting.{begins, judges, was-prepared}
use Rattle.destructors.proofs.Keeping.{run-places}

pub may-free : (x : Obj) (p : Pool) → newest_ref p.rows x ≡ None → target_at p.rows x ≡ None → MayBegin (Beginning x) p
may-free x p unheld object = record { claims_nothing = λ y. refl; rests = λ claimed. (unheld, object); small = refl }

pub may-unlink : (o : Owner) (x : Obj) (p : Pool) → IsLiveRow p x → target_at p.rows x ≡ None → MayBegin (Unlinking o x) p
may-unlink o x p live object = each (row_of p.rows x) refl
  where
    marks : (m : Mark) → is_dying_mark m ≡ false → IsLive m
    marks (Dying former) e = cc
    marks _ e = tt

    each : (r : Option Row) → row_of p.rows x ≡ r → MayBegin (Unlinking o x) p
    each None e = let bad : false ≡ true = rw e at live.0 in cc
    each (Some r) e =
        let l : is_dying_mark r.mark ≡ false = rw e at live.1 in
        let t : target_of r.kind ≡ None = rw e at object in
        record { claims_nothing = λ y. refl; rests = λ claimed. (tt, r, e, marks r.mark l, t); small = refl }

pub may-empty : (x : Obj) (p : Pool) → MayBegin (Looping x Emptying) p
may-empty x p = record { claims_nothing = λ y. refl; rests = λ claimed. tt; small = refl }

-- ---- by the parts of an engine

pub answered : (f : FreeFrame) (v : ℕ) (fs : List FreeFrame) (p : Pool) → IsAsked (Some f) → IsAwaiting (record { works = f ∷ fs; pool = p }) → AtWork (unwrap_or (free_taken f p v) f ∷ fs) p
answered (Hooked x h) v fs p asked a = judges x h v fs p a
answered _ v fs p asked a = absurd asked

pub answered-speaks : (f : FreeFrame) (v : ℕ) (fs : List FreeFrame) (p : Pool) → IsAsked (Some f) → speaking (record { works = unwrap_or (free_taken f p v) f ∷ fs; pool = p }) ≡ true
answered-speaks (Hooked x h) v fs p asked = by_test (nat_eq v 0) (λ t. rw t refl) (λ t. rw t refl)
answered-speaks _ v fs p asked = absurd asked

-- a first work that is put before the works that wait
pub begun : (f : FreeFrame) (o o' : Option FreeFrame) (old new : Links) → o' ≡ o → MayBegin f (pool_of old) → IsAwaiting (frees_of o old) → pool_of new ≡ pool_of old → new.frees ≡ before o' old.frees
    → AtWork (f ∷ new.frees) (pool_of new)
begun f o o' old new same may a rows works =
    let w : AtWork (f ∷ before o old.frees) (pool_of old) = begins f (before o old.frees) (pool_of old) may a in
    let l : new.frees ≡ before o old.frees = works ∙ ap (λ (z : Option FreeFrame). before z old.frees) same in
    rw (l, rows) w

-- what comes before the innermost free is over: it goes on
pub prepared-works : (f : FreeFrame) (fs : List FreeFrame) (p : Pool) → IsPreparing (Some f) → IsAwaiting (record { works = f ∷ fs; pool = p }) → AtWork (was_prepared f ∷ fs) p
prepared-works f fs p is a = was-prepared f fs p is a

prepared-room : (f : FreeFrame) (tree : Links) → IsPreparing (Some f) → HasRoom (Some f) tree → HasRoom (Some (was_prepared f)) tree
prepared-room (Preparing x) tree is room = omega (arith, room)
prepared-room (Draining x) tree is room = omega (arith, room)
prepared-room _ tree is room = absurd is

pub prepared-ready : (f : FreeFrame) (tree : Links) → IsPreparing (Some f) → IsAwaiting (frees_of (Some f) tree) → HasRoom (Some f) tree → IsBetweenCalls (Some (was_prepared f)) tree
prepared-ready f tree is a room = record { moves = inl (prepared-works f tree.frees (pool_of tree) is a); room = prepared-room f tree is room }

-- ---- room

row_places-most : (rs : List Row) → total row_places rs ≤ length rs
row_places-most [] = omega arith
row_places-most (r ∷ rs) = let ih = row_places-most rs in omega (arith, ih, few r.mark)
  where
    few : (m : Mark) → mark_places m ≤ 1
    few mark.Quiet = omega arith
    few _ = omega arith

work_places-most : (f : FreeFrame) → work_places f ≤ 1
work_places-most (Leaving x h) = by_test (nat_eq h 0) (λ t. rw t (omega arith)) (λ t. rw t (omega arith))
work_places-most (Unlinking o x) = omega arith
work_places-most _ = omega arith

waiting-most : (o : Option FreeFrame) (fs : List FreeFrame) → length (before o fs) ≤ length fs + 1
waiting-most None fs = omega arith
waiting-most (Some g) fs = omega arith

-- room for a place for each row, and two, is enough for any free that begins
pub any-room-for : (f : FreeFrame) (o : Option FreeFrame) (tree : Links) → length tree.rows + 2 ≤ tree.room → HasRoomFor f o tree
any-room-for f o tree room = let m = row_places-most tree.rows in let w = work_places-most f in let n = waiting-most o tree.frees in omega (arith, m, w, n, room)

-- and enough for those that are open
pub any-room : (o : Option FreeFrame) (tree : Links) → length tree.rows + 2 ≤ tree.room → HasRoom o tree
any-room None tree room = waiting tree.frees
  where
    waiting : (fs : List FreeFrame) → wanted fs tree.rows ≤ length fs + tree.room
    waiting [] = let m = row_places-most tree.rows in omega (arith, m, room)
    waiting (g ∷ gs) = let m = row_places-most tree.rows in let w = work_places-most g in omega (arith, m, w, room)
any-room (Some f) tree room = let m = row_places-most tree.rows in let w = work_places-most f in omega (arith, m, w, room)

-- a free begins in the run that another waits for, with a work that wants no place of its own, within the room that there is
pub room-within : (f g : FreeFrame) (tree : Links) → work_places f ≡ 0 → awaits_run g ≡ true → HasRoom (Some g) tree → HasRoomFor f (Some g) tree
room-within f g tree none waits room = let w = run-places g waits in omega (arith, none, w, room)

pub begun-room : (f : FreeFrame) (o : Option FreeFrame) (old new : Links) → HasRoomFor f o old → pool_of new ≡ pool_of old → new.frees ≡ before o old.frees
    → length old.frees + old.room ≤ length new.frees + new.room → HasRoom (Some f) new
begun-room f o old new room rows works kept =
    let r : new.rows ≡ old.rows = ap (λ (p : Pool). p.rows) rows in
    let w : wanted (f ∷ new.frees) new.rows ≡ wanted (f ∷ before o old.frees) old.rows = rw (works, r) refl in
    omega (arith, room, kept, w)

-- where the innermost work is to wait, there is room for it
pub waits-room : (f : FreeFrame) (o : Option FreeFrame) (tree : Links) → HasRoomFor f o tree → length (before o tree.frees) ≤ length tree.frees + tree.room
waits-room f o tree room = omega (arith, room)
