use Rattle.std.proofs.Common.{ap, subst, refl}
use Rattle.tree_specs.specs.declared.frame.FreeFrame.TheVariants.{Unlinking, Beginning, Looping}
use Rattle.tree_specs.specs.declared.frame.Purpose.TheVariants.{Emptying}
use Rattle.host_core.specs.declared.step.Step.{Step}
use Rattle.host_core.specs.Steps.{IsBusy}
use Rattle.host_core.specs.Places.{HasPlacesFor}
use Rattle.host_core.specs.Going.{stepped_view, step_places, StepReady}
use Rattle.host_core.proofs.Beginning.{calls_along, calls_ready, begin_awaits, begun_along, begun_ready}
use Rattle.host_core.proofs.works.go_on.Goals as goal

pub begin_free-requires-clause-awaiting : goal.begin_free-requires-clause-awaiting
begin_free-requires-clause-awaiting c =
    begin_awaits c.args.step (Beginning c.in-Frees.x) c.in-Frees.second c.args.parts.now (ap (λ (s : Step). stepped_view s c.args.parts.now) c.in-Frees.is)
    (subst IsBusy c.in-Frees.is c.requires.busy) (λ y. refl) (λ rows. refl) c.requires.whole c.requires.fit

pub returns-in-Frees-clause-along : goal.returns-in-Frees-clause-along
returns-in-Frees-clause-along c =
    begun_along c.args.step (Beginning c.in-Frees.x) c.in-Frees.second c.args.parts.now (ap (λ (s : Step). stepped_view s c.args.parts.now) c.in-Frees.is)
    (subst IsBusy c.in-Frees.is c.requires.busy) (λ y. refl) (λ rows. refl) c.requires.whole c.requires.fit
    (record { waiting = c.push_reserved-in-Frees.new.self; objects = c.begin_free.new.self }) c.push_reserved-in-Frees.ensures.items c.begin_free.ensures.begins

pub returns-in-Frees-clause-ready : goal.returns-in-Frees-clause-ready
returns-in-Frees-clause-ready c =
    begun_ready c.args.step (Beginning c.in-Frees.x) c.in-Frees.second c.args.parts.now (ap (λ (s : Step). stepped_view s c.args.parts.now) c.in-Frees.is)
    (subst IsBusy c.in-Frees.is c.requires.busy) (λ y. refl) (λ rows. refl) c.requires.whole c.requires.fit
    (record { waiting = c.push_reserved-in-Frees.new.self; objects = c.begin_free.new.self }) c.push_reserved-in-Frees.ensures.items c.begin_free.ensures.begins
    c.begin_free.ensures.at_work c.begin_free.ensures.requests (subst (λ (s : Step). HasPlacesFor (step_places s) c.args.parts.now) c.in-Frees.is c.requires.places) c.push_reserved-in-Frees.ensures.capacity

pub begin_unlink-requires-clause-awaiting : goal.begin_unlink-requires-clause-awaiting
begin_unlink-requires-clause-awaiting c =
    begin_awaits c.args.step (Unlinking c.in-Unlinks.owner c.in-Unlinks.x) c.in-Unlinks.second c.args.parts.now (ap (λ (s : Step). stepped_view s c.args.parts.now) c.in-Unlinks.is)
    (subst IsBusy c.in-Unlinks.is c.requires.busy) (λ y. refl) (λ rows. refl) c.requires.whole c.requires.fit

pub returns-in-Unlinks-clause-along : goal.returns-in-Unlinks-clause-along
returns-in-Unlinks-clause-along c =
    begun_along c.args.step (Unlinking c.in-Unlinks.owner c.in-Unlinks.x) c.in-Unlinks.second c.args.parts.now (ap (λ (s : Step). stepped_view s c.args.parts.now) c.in-Unlinks.is)
    (subst IsBusy c.in-Unlinks.is c.requires.busy) (λ y. refl) (λ rows. refl) c.requires.whole c.requires.fit
    (record { waiting = c.push_reserved-in-Unlinks.new.self; objects = c.begin_unlink.new.self }) c.push_reserved-in-Unlinks.ensures.items c.begin_unlink.ensures.begins

pub returns-in-Unlinks-clause-ready : goal.returns-in-Unlinks-clause-ready
returns-in-Unlinks-clause-ready c =
    begun_ready c.args.step (Unlinking c.in-Unlinks.owner c.in-Unlinks.x) c.in-Unlinks.second c.args.parts.now (ap (λ (s : Step). stepped_view s c.args.parts.now) c.in-Unlinks.is)
    (subst IsBusy c.in-Unlinks.is c.requires.busy) (λ y. refl) (λ rows. refl) c.requires.whole c.requires.fit
    (record { waiting = c.push_reserved-in-Unlinks.new.self; objects = c.begin_unlink.new.self }) c.push_reserved-in-Unlinks.ensures.items c.begin_unlink.ensures.begins
    c.begin_unlink.ensures.at_work c.begin_unlink.ensures.requests (subst (λ (s : Step). HasPlacesFor (step_places s) c.args.parts.now) c.in-Unlinks.is c.requires.places) c.push_reserved-in-Unlinks.ensures.capacity

pub begin_kids-requires-clause-awaiting : goal.begin_kids-requires-clause-awaiting
begin_kids-requires-clause-awaiting c =
    begin_awaits c.args.step (Looping c.in-Empties.x Emptying) c.in-Empties.second c.args.parts.now (ap (λ (s : Step). stepped_view s c.args.parts.now) c.in-Empties.is)
    (subst IsBusy c.in-Empties.is c.requires.busy) (λ y. refl) (λ rows. refl) c.requires.whole c.requires.fit

pub returns-in-Empties-clause-along : goal.returns-in-Empties-clause-along
returns-in-Empties-clause-along c =
    begun_along c.args.step (Looping c.in-Empties.x Emptying) c.in-Empties.second c.args.parts.now (ap (λ (s : Step). stepped_view s c.args.parts.now) c.in-Empties.is)
    (subst IsBusy c.in-Empties.is c.requires.busy) (λ y. refl) (λ rows. refl) c.requires.whole c.requires.fit
    (record { waiting = c.push_reserved-in-Empties.new.self; objects = c.begin_kids.new.self }) c.push_reserved-in-Empties.ensures.items c.begin_kids.ensures.begins

pub returns-in-Empties-clause-ready : goal.returns-in-Empties-clause-ready
returns-in-Empties-clause-ready c =
    begun_ready c.args.step (Looping c.in-Empties.x Emptying) c.in-Empties.second c.args.parts.now (ap (λ (s : Step). stepped_view s c.args.parts.now) c.in-Empties.is)
    (subst IsBusy c.in-Empties.is c.requires.busy) (λ y. refl) (λ rows. refl) c.requires.whole c.requires.fit
    (record { waiting = c.push_reserved-in-Empties.new.self; objects = c.begin_kids.new.self }) c.push_reserved-in-Empties.ensures.items c.begin_kids.ensures.begins
    c.begin_kids.ensures.at_work c.begin_kids.ensures.requests (subst (λ (s : Step). HasPlacesFor (step_places s) c.args.parts.now) c.in-Empties.is c.requires.places) c.push_reserved-in-Empties.ensures.capacity

pub returns-in-Calls-clause-along : goal.returns-in-Calls-clause-along
returns-in-Calls-clause-along c =
    calls_along c.args.step c.in-Calls.first c.in-Calls.second c.args.parts.now (record { waiting = c.push_reserved.new.self; objects = c.args.parts.now.objects }) (ap (λ (s : Step). stepped_view s c.args.parts.now) c.in-Calls.is)
    (subst IsBusy c.in-Calls.is c.requires.busy).1 (subst IsBusy c.in-Calls.is c.requires.busy).0 c.push_reserved.ensures.items refl c.requires.whole

pub returns-in-Calls-clause-ready : goal.returns-in-Calls-clause-ready
returns-in-Calls-clause-ready c =
    calls_ready c.args.step c.in-Calls.first c.in-Calls.second c.args.parts.now (record { waiting = c.push_reserved.new.self; objects = c.args.parts.now.objects }) (ap (λ (s : Step). stepped_view s c.args.parts.now) c.in-Calls.is)
    (subst IsBusy c.in-Calls.is c.requires.busy).1 (subst IsBusy c.in-Calls.is c.requires.busy).0 c.push_reserved.ensures.items refl c.requires.whole
    c.requires.fit (subst (λ (s : Step). StepReady s c.args.parts.now.objects) c.in-Calls.is c.requires.ready) (subst (λ (s : Step). HasPlacesFor (step_places s) c.args.parts.now) c.in-Calls.is c.requires.places) c.push_reserved.ensures.capacity
