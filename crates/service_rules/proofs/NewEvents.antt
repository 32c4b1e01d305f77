-- An accepting run stands on a turn alone, and the event that it makes for a descriptor is a new one.
use Rattle.std.proofs.Common.{◌≡◌, ℕ, zero, suc, ◌<◌, true, false, List, [], ◌∷◌, ◌++◌, Option, Some, None, refl, sym, ap, subst, arith}
use Rattle.std.specs.Prelude.{codes, is_some}
use Rattle.tree_specs.specs.declared.object.Obj.{Obj}
use Rattle.tree_specs.specs.declared.object.Owner.TheVariants.{Of}
use Rattle.tree_specs.specs.declared.kind.Kind.TheVariants.{Descriptor}
use Rattle.tree_specs.specs.declared.handler.Handler.{Handler}
use Rattle.tree_specs.specs.declared.occasion.Occasion.{Occasion}
use Rattle.tree_specs.specs.declared.watch.Watch.{Watch}
use Rattle.tree_specs.specs.declared.moment.What.TheVariants as what
use Rattle.tree_specs.specs.declared.question.Ask.TheVariants as ask
use Rattle.tree_specs.specs.declared.frame.Frame.{Frame}
use Rattle.tree_specs.specs.declared.frame.Frame.TheVariants as frame
use Rattle.tree_specs.specs.declared.frame.CallFrame.TheVariants.{Awaiting, Requesting, Turning}
use Rattle.tree_specs.specs.declared.frame.TurnFrame.TheVariants.{Handling, Clearing, Serving, Parting}
use Rattle.tree_specs.specs.declared.frame.RequestFrame.TheVariants as request
use Rattle.tree_specs.specs.Words.Objects.{same, numbered_owner}
use Rattle.tree_specs.specs.Tree.Pool.{Pool, row_of, new_row}
use Rattle.tree_specs.specs.Events.Rotation.{watch_of, is_watching}
use Rattle.tree_specs.specs.Calls.Plans.{adds_descriptor, changed_by}
use Rattle.tree_specs.specs.Machine.Profiles.{profile}
use Rattle.tree_specs.specs.Invariants.Awaiting.{Awaits, MayCome}
use Rattle.tree_specs.specs.Invariants.Consistent.{Server, server, IsBy, IsStacked}
use Rattle.tree_specs.specs.Invariants.Consistent.Server.{ByRun, ByTurn, ByRequest, ByFree}
use Rattle.tree_specs.specs.Invariants.Sound.{AllWait, ValidAt}
use Rattle.tree_specs.proofs.Tree.Numbered.{by_test, same-equal}
use Rattle.tree_specs.proofs.Invariants.Changes.{nobody}
use Rattle.service_rules.specs.declared.task.Run.{Run}
use Rattle.service_rules.proofs.Owing.{Below}
use Rattle.service_rules.proofs.KidsBelow.{KidsBelow}
use Rattle.service_rules.proofs.Seating.{Handles}
use Rattle.service_rules.proofs.Sparing.{AllSpare, Removing}
use Rattle.service_rules.proofs.Tending.{Tended}

-- ---- what an accepting run stands on

-- the host's own caller stands on nothing
bottom : (hs : List Frame) → IsStacked (frame.Call (Turning ask.Quiet)) hs → hs ≡ []
bottom [] s = refl
bottom (g ∷ gs) s = absurd (each (server (profile g).waits) s.0)
  where
    each : (w : Server) → IsBy w (frame.Call (Turning ask.Quiet)) → ⊥
    each ByRun b = b
    each ByTurn b = b
    each ByRequest b = b
    each ByFree b = b

-- each of these works stands on those below it
abbrev pub Stacks : List Frame → Type 0
Stacks [] = Unit {0}
Stacks (f ∷ fs) = IsStacked f fs

abbrev IsAlone : List Frame → Type 0
IsAlone gs = gs ≡ frame.Call (Turning ask.Quiet) ∷ []

turning : (x : Obj) (h : Handler) (o : Occasion) (gs : List Frame) (runs : List Run) → AllWait (frame.Turn (Handling what.Descriptor x h o) ∷ gs) → IsStacked (frame.Turn (Handling what.Descriptor x h o)) gs → Below gs runs → IsAlone gs
turning x h o (frame.Call (Turning ask.Quiet) ∷ hs) runs w s b = ap (λ (z : List Frame). frame.Call (Turning ask.Quiet) ∷ z) (bottom hs s.1)
turning x h o (frame.Call (Turning _) ∷ hs) runs w s b = absurd b
turning x h o (frame.Call (Awaiting q y) ∷ hs) runs w s b = absurd w.0
turning x h o (frame.Call (Requesting q) ∷ hs) runs w s b = absurd w.0
turning x h o (frame.Call _ ∷ hs) runs w s b = absurd w.0
turning x h o [] runs w s b = absurd w.0
turning x h o (frame.Free f ∷ hs) runs w s b = absurd w.0
turning x h o (frame.Turn (Clearing y) ∷ hs) runs w s b = absurd w.0
turning x h o (frame.Turn (Serving y) ∷ hs) runs w s b = absurd w.0
turning x h o (frame.Turn (Parting c v) ∷ hs) runs w s b = absurd w.0
turning x h o (frame.Turn _ ∷ hs) runs w s b = absurd w.0
turning x h o (frame.Outside f ∷ hs) runs w s b = absurd w.0
turning x h o (frame.Request (request.Releasing c) ∷ hs) runs w s b = absurd w.0
turning x h o (frame.Request (request.Dropping q y) ∷ hs) runs w s b = absurd w.0
turning x h o (frame.Request _ ∷ hs) runs w s b = absurd w.0

-- no free is open below it, and none of another object
pub alone : (fs : List Frame) (runs : List Run) → Handles fs → AllWait fs → Stacks fs → Below fs runs → (e k : Obj) → (Removing e k fs → ⊥) × AllSpare e k fs
alone (frame.Turn (Handling what.Descriptor x h o) ∷ gs) runs turn w s b e k = subst (λ (z : List Frame). (Removing e k (frame.Turn (Handling what.Descriptor x h o) ∷ z) → ⊥) × AllSpare e k (frame.Turn (Handling what.Descriptor x h o) ∷ z)) (sym (turning x h o gs runs w s b)) ((λ r. r), ((λ once. cc), (tt, tt)))
alone _ runs turn w s b e k = absurd turn

-- ---- a new event

-- the owner of this number
numbered : (s : Obj) → 0 < s.0 → numbered_owner s.0 ≡ Of s
numbered s h = each s.0 refl
  where
    each : (n : ℕ) → s.0 ≡ n → numbered_owner n ≡ Of s
    each zero i = absurd (omega (arith, h, i))
    each (suc n) i = ap (λ (z : ℕ). Of (record { 0 = z })) (sym i)

pushed-none : (ws : List Watch) (e : Obj) (v : Watch) → watch_of ws e ≡ None → v.object ≡ e → watch_of (ws ++ v ∷ []) e ≡ Some v
pushed-none [] e v none is = rw (same-equal v.object e is) refl
pushed-none (u ∷ us) e v none is = by_test (same u.object e) (λ a. let bad : Some u ≡ None = rw a at none in cc) (λ a. rw a (pushed-none us e v (rw a at none) is))

pub new-tended : (p : Pool) (s : Obj) (fd flags : ℕ) (handler : Handler) → 0 < s.0 → Awaits p → ((x : Obj) → ValidAt p.next (row_of p.rows x) x) → KidsBelow p
    → Tended (record { 0 = p.next }) s fd (changed_by (adds_descriptor p (numbered_owner s.0) fd flags handler) p)
new-tended p s fd flags handler positive awaits valid kids = record {
  row = new_row e Descriptor (numbered_owner s.0) 0 (codes "fd");
  is = rw (same-equal e e refl) refl;
  kind = refl;
  hook = refl;
  owner = ap Some (numbered s positive);
  watch = record { object = e; fd = fd; flags = flags; closes = false; context = Some handler.context };
  watches = pushed-none p.ring e (record { object = e; fd = fd; flags = flags; closes = false; context = Some handler.context }) (unwatched (watch_of p.ring e) refl) refl;
  on = refl;
  apart = λ x n h i. let l : n.child.0 < p.next = kids x n h in let j : n.child.0 ≡ p.next = ap (λ (z : Obj). z.0) i in absurd (omega arith);
}
  where
    e : Obj
    e = record { 0 = p.next }

    unwatched : (o : Option Watch) → watch_of p.ring e ≡ o → watch_of p.ring e ≡ None
    unwatched None i = i
    unwatched (Some w) i =
        let a : is_watching p.ring e ≡ true = ap is_some i in
        let m = (awaits.events what.Descriptor e a).0 in
        absurd (subst (MayCome what.Descriptor) (nobody p valid) m)
