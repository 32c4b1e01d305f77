use Rattle.std.proofs.Common.{Option, sym, ◌∙◌, ap, subst}
use Rattle.tree_specs.specs.declared.event.Event.{Event}
use Rattle.host_core.specs.Promises.{Waits, NextLaw}
use Rattle.host_core.specs.Hosts.{speaking_view, host_view, Tells}
use Rattle.host_core.proofs.Nexts.{told-next, next-law, still-waits}
use Rattle.host_core.proofs.Speaking.{ready-settled}
use Rattle.host_core.proofs.host.Host.next.Goals as goal

pub tell-requires : goal.tell-requires
tell-requires c = ready-settled c.self.inside.active c.self.inside.parts.objects c.self.invariant.0.ready

-- ---- a question is open

pub invariant_of-self : goal.invariant_of-self
invariant_of-self c =
    let now = c.self.inside.active in
    let parts = c.self.inside.parts in
    let s = still-waits now parts c.tell.new.now c.tell.new.objects c.self.invariant.0 c.self.invariant.1 (subst (λ (z : Option Event). Tells z now parts.objects c.tell.new.now c.tell.new.objects) c.in_err-event.was c.tell.ensures) in
    (s.ready, ap speaking_view s.same ∙ c.self.invariant.1)

pub returns-in_err-event : goal.returns-in_err-event
returns-in_err-event c =
    let now = c.self.inside.active in
    let parts = c.self.inside.parts in
    let s = still-waits now parts c.tell.new.now c.tell.new.objects c.self.invariant.0 c.self.invariant.1 (subst (λ (z : Option Event). Tells z now parts.objects c.tell.new.now c.tell.new.objects) c.in_err-event.was c.tell.ensures) in
    subst (λ (z : Option Event). NextLaw z c.args.self.now (host_view c.tell.new.now (record { waiting = parts.waiting; objects = c.tell.new.objects }))) (sym c.from_residual.ensures) (subst Waits c.self.view_is s.waits, s.same ∙ c.self.view_is)

-- ---- an event was told

pub settle-requires : goal.settle-requires
settle-requires c =
    let now = c.self.inside.active in
    let parts = c.self.inside.parts in
    (told-next c.in_ok-event.event now parts c.tell.new.now c.tell.new.objects c.self.invariant.0 (subst (λ (z : Option Event). Tells z now parts.objects c.tell.new.now c.tell.new.objects) c.in_ok-event.was c.tell.ensures)).ready

pub returns : goal.returns
returns c =
    let now = c.self.inside.active in
    let parts = c.self.inside.parts in
    next-law c.in_ok-event.event now parts c.tell.new.now c.tell.new.objects c.args.self.now _ c.self.invariant.0 c.self.invariant.1 c.self.view_is
    (subst (λ (z : Option Event). Tells z now parts.objects c.tell.new.now c.tell.new.objects) c.in_ok-event.was c.tell.ensures) c.settle.ensures.along
