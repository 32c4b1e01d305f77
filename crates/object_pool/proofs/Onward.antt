-- Open frees go on as what they are, whatever is to come beside the rows.
use Rattle.std.proofs.Common.{◌≡◌, ℕ, List, [], ◌∷◌, Option, Some, slice_get, refl, sym, ap, ◌∙◌, arith}
use Rattle.tree_specs.specs.declared.frame.FreeFrame.{FreeFrame}
use Rattle.tree_specs.specs.declared.free_step.FreeStep.{FreeStep}
use Rattle.tree_specs.specs.declared.free_step.FreeStep.TheVariants.{Doom, Left}
use Rattle.tree_specs.specs.declared.object.Obj.{Obj}
use Rattle.tree_specs.specs.declared.row.Row.{Row}
use Rattle.tree_specs.specs.Tree.Pool.{Pool}
use Rattle.destructors.specs.Engine.{IsAsked, IsPreparing}
use Rattle.destructors.specs.Frees.{OpenFrees, let_go_by, moves, next_of, returned, prepared, Begins, Steps}
use Rattle.destructors.specs.Works.{AtWork, AreAwaiting, IsAtWork, IsAwaiting, GoesOn, MayBegin}
use Rattle.destructors.proofs.Begins.{answered, prepared-works}
use Rattle.destructors.proofs.Counting.{silent-rows}
use Rattle.destructors.proofs.Hosting.{begins}
use Rattle.destructors.proofs.Keeping.{told-kept}
use Rattle.destructors.proofs.Settling.{told-settled}
use Rattle.object_pool.specs.Upcoming.{Upcoming, Agenda, KeepsPlaces, KeepsContexts, KeepsAllBut, MayForget, after, gone_by, without_gone, without_left}

-- a free that has begun is at work
pub begun-works : (f : FreeFrame) (fs : List FreeFrame) (p : Pool) (t : OpenFrees) → MayBegin f p → AreAwaiting fs p → Begins (f ∷ fs) p t → IsAtWork t
begun-works f fs p t may awaiting b = (silent-rows (record { works = f ∷ fs; pool = p }) t (begins f fs p may awaiting) b.moves_on).0

-- so is one whose request was received, or whose queue has no entries
pub prepared-at_work : (fs : List FreeFrame) (p : Pool) (t : OpenFrees) → IsPreparing (slice_get fs 0) → AreAwaiting fs p → Begins (prepared fs) p t → IsAtWork t
prepared-at_work [] p t preparing awaiting b = absurd preparing
prepared-at_work (f ∷ fs) p t preparing awaiting b = (silent-rows (record { works = prepared (f ∷ fs); pool = p }) t (prepared-works f fs p preparing awaiting) b.moves_on).0

-- and one whose destructor has returned
pub returned-works : (v : ℕ) (fs : List FreeFrame) (p : Pool) → IsAsked (slice_get fs 0) → AreAwaiting fs p → AtWork (returned v (record { works = fs; pool = p })) p
returned-works v [] p asked awaiting = absurd asked
returned-works v (f ∷ fs) p asked awaiting = answered f v fs p asked awaiting

-- what holds after a step
pub steps-go_on : (s t : OpenFrees) (told : FreeStep) → IsAtWork s → Steps s told t → GoesOn told t
steps-go_on s t told w h = each s.works refl w
  where
    each : (fs : List FreeFrame) → s.works ≡ fs → AtWork fs s.pool → GoesOn told t
    each [] e w = absurd w
    each (f ∷ fs) e w =
        let first : moves (f ∷ fs) s.pool ≡ next_of s = ap (λ (gs : List FreeFrame). moves gs s.pool) (sym e) in
        let tells : next_of s ≡ (Some told, (next_of s).1) = ap (λ (o : Option FreeStep). (o, (next_of s).1)) h.tells in
        told-settled told (next_of s).1 t (told-kept f fs s.pool told (next_of s).1 w (first ∙ tells)) h.moves_on
        (λ (on : IsAtWork (next_of s).1). (silent-rows (next_of s).1 t on h.moves_on).0)

-- ---- what is to come on the way

-- what a step lets go of leaves what it makes an end of as it was
pub forgets-later : (told : FreeStep) (rs : List Row) (u : Upcoming) → MayForget (Some told) u → MayForget (Some told) (without_left rs (let_go_by (Some told)) u)
forgets-later (Left x from) rs u m = tt
forgets-later (Doom x) rs u m = tt
forgets-later _ rs u m = m

-- places are kept by one change after another
pub places-both : (a b c : Agenda) → KeepsPlaces a b → KeepsPlaces b c → KeepsPlaces a c
places-both a b c k l = record {
  soon = (let i = k.soon in let j = l.soon in omega (arith, i, j));
  times = (let i = k.times in let j = l.times in omega (arith, i, j));
  ring = (let i = k.ring in let j = l.ring in omega (arith, i, j));
  descriptors = (let i = k.descriptors in let j = l.descriptors in omega (arith, i, j));
  handlers = (let i = k.handlers in let j = l.handlers in omega (arith, i, j));
  requests = (let i = k.requests in let j = l.requests in omega (arith, i, j));
  queues = (let i = k.queues in let j = l.queues in omega (arith, i, j));
}

-- so are contexts
pub contexts-both : (o : Option Obj) (a b c : Agenda) → KeepsContexts a b → KeepsAllBut o b c → KeepsAllBut o a c
contexts-both o a b c k l = record {
  held = λ d other held. l.held d other (k.held d held);
  spare = (let i = k.spare in let j = l.spare in omega (arith, i, j));
}

-- what is to come after a step, by one change after another
pub after-both : (rs : List Row) (told : FreeStep) (next : Option FreeStep) (u mid new : Upcoming) → next ≡ Some told → mid ≡ without_left rs (let_go_by next) u → new ≡ without_gone (gone_by (Some told)) mid → new ≡ after rs (Some told) u
after-both rs told next u mid new tells left gone = gone ∙ ap (without_gone (gone_by (Some told))) (left ∙ ap (λ (o : Option FreeStep). without_left rs (let_go_by o) u) tells)
