-- What a free that begins, or goes on, needs of the objects, by the parts of a pool.
use Rattle.std.proofs.Common.{◌≡◌, ◌+◌, ◌∷◌, Option, Some, None, true, slice_get, inl, inr, refl, sym, ◌∙◌, ap, subst, arith}
use Rattle.tree_specs.specs.declared.frame.FreeFrame.{FreeFrame}
use Rattle.tree_specs.specs.declared.frame.FreeFrame.TheVariants.{Preparing, Draining}
use Rattle.tree_specs.specs.declared.object.Obj.{Obj}
use Rattle.tree_specs.specs.Tree.Pool.{is_usable}
use Rattle.tree_links.specs.Links.{Links, pool_of}
use Rattle.destructors.specs.Engine.{AreKept, HasRoom, HasRoomFor}
use Rattle.destructors.specs.Frees.{before, frees_of, speaking}
use Rattle.destructors.specs.Room.{row_places, wanted, work_places}
use Rattle.tree_specs.specs.Tree.Inside.{total}
use Rattle.destructors.specs.Works.{IsAwaiting, IsAtWork}
use Rattle.destructors.proofs.Begins.{any-room-for, room-within}
use Rattle.object_pool.specs.Agreeing.{AgreeWith}
use Rattle.object_pool.specs.Objects.{Objects, MayBeginFree, MayFreeOn, frees_in, objects_of}
use Rattle.object_pool.specs.Upcoming.{holds_context, nothing_comes}
use Rattle.object_pool.specs.declared.pool.ObjectPool.TheInside.{Inside}
use Rattle.object_pool.proofs.Hosted.{holds-usable}
use Rattle.object_pool.proofs.Beside.{awaits-same, works-same, speaking-beside}

-- the objects, by the parts
abbrev pub seen : Inside → Objects
seen b = objects_of b.engine b.tree b.events.upcoming b.ready

pub awaits-inside : (b : Inside) (o : Objects) → seen b ≡ o → IsAwaiting (frees_in o) → IsAwaiting (frees_of b.engine b.tree)
awaits-inside b o e a = awaits-same (pool_of b.tree) b.events.upcoming nothing_comes refl (before b.engine b.tree.frees) (subst (λ (z : Objects). IsAwaiting (frees_in z)) (sym e) a)

pub at_work-inside : (b : Inside) (o : Objects) → seen b ≡ o → IsAtWork (frees_in o) → IsAtWork (frees_of b.engine b.tree)
at_work-inside b o e a = works-same (pool_of b.tree) b.events.upcoming nothing_comes refl (before b.engine b.tree.frees) (subst (λ (z : Objects). IsAtWork (frees_in z)) (sym e) a)

pub settled-inside : (b : Inside) (o : Objects) → seen b ≡ o → speaking (frees_in o) ≡ true → speaking (frees_of b.engine b.tree) ≡ true
settled-inside b o e s = sym (speaking-beside b.events.upcoming (frees_of b.engine b.tree)) ∙ ap (λ (z : Objects). speaking (frees_in z)) e ∙ s

-- the innermost of the open frees is the engine's
pub innermost-is : (o : Option FreeFrame) (t : Links) → AreKept o t → slice_get (before o t.frees) 0 ≡ o
innermost-is None t kept = rw kept refl
innermost-is (Some f) t kept = refl

-- what is known of it is known of the engine's work
pub innermost-has : (P : Option FreeFrame → Type 0) (b : Inside) (o : Objects) → seen b ≡ o → AgreeWith b → P (slice_get o.works 0) → P b.engine
innermost-has P b o e a h = subst P (innermost-is b.engine b.tree a.kept) (subst (λ (z : Objects). P (slice_get z.works 0)) (sym e) h)

waiting-room : (f : FreeFrame) (o : Option FreeFrame) (t : Links) → work_places f ≡ 0 → AreKept o t → HasRoom o t → MayFreeOn o → HasRoomFor f o t
waiting-room f None t none kept room r =
    let here : wanted t.frees t.rows ≡ total row_places t.rows = rw kept refl in
    let works : wanted (f ∷ t.frees) t.rows ≡ 0 + work_places f + total row_places t.rows = rw kept refl in
    omega (arith, none, room, here, works)
waiting-room f (Some (Preparing x)) t none kept room r = room-within f (Preparing x) t none refl room
waiting-room f (Some (Draining x)) t none kept room r = room-within f (Draining x) t none refl room
waiting-room f (Some _) t none kept room r = absurd r

-- there is room for the works of a free where it may begin
pub room-ready : (f : FreeFrame) (b : Inside) → b.ready ≡ true → AgreeWith b → HasRoomFor f b.engine b.tree
room-ready f b ready a = let c = (a.call ready).works in any-room-for f b.engine b.tree (omega (arith, c))

pub room-begins : (f : FreeFrame) (b : Inside) (o : Objects) → seen b ≡ o → work_places f ≡ 0 → MayBeginFree o → AgreeWith b → HasRoomFor f b.engine b.tree
room-begins f b o e none may a = elim (subst MayBeginFree (sym e) may) [
  | inl ready ↦ room-ready f b ready a
  | inr waits ↦ waiting-room f b.engine b.tree none a.kept a.room (subst MayFreeOn (innermost-is b.engine b.tree a.kept) waits)
]

-- all may come in a context that is usable
pub held-usable : (b : Inside) (o : Objects) → seen b ≡ o → AgreeWith b → (c : Obj) → is_usable o.pool.rows c ≡ true → holds_context b.events c ≡ true
held-usable b o e a c usable = holds-usable b.tree.rows b.events a.contexts c (subst (λ (z : Objects). is_usable z.pool.rows c ≡ true) (sym e) usable)
