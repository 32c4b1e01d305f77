use Rattle.std.proofs.Common.{Result, Ok, Err, None, refl, sym, ◌∙◌, subst}
use Rattle.std.specs.Prelude.{OnOk, OnErr}
use Rattle.tree_specs.specs.declared.memory.Memory.{Memory}
use Rattle.tree_specs.specs.Machine.View.{View}
use Rattle.host_core.specs.Hosts.{host_view, TellsSameStory}
use Rattle.host_core.proofs.Offering.{offered, takes-answer, fits-there}
use Rattle.host_core.proofs.Straying.{no-some, taken-there}
use Rattle.host_core.proofs.Taking.{wanted_by, told_report, read_calls, read_taken, given_same, may_take}
use Rattle.host_core.proofs.host.Host.take.Goals as goal

-- what was done, or nothing was
either : {A B C : Type 0} (r : Result (Unit {0}) Memory) → OnOk r A → OnErr r B → (A → C) → (B → C) → C
either (Ok done) a b f g = f a
either (Err why) a b f g = g b

on-ok : {A C : Type 0} (r : Result (Unit {0}) Memory) → OnOk r A → (A → C) → OnOk r C
on-ok (Ok done) a f = f a
on-ok (Err why) a f = tt

-- ---- a report

pub report_for-requires : goal.report_for-requires
report_for-requires c =
    let q = wanted_by c.self.inside.active c.self.inside.parts c.args.input c.self.invariant.0 (fits-there c.args.self.now c.self.inside.active c.self.inside.parts c.args.input c.self.invariant.0 c.self.invariant.1 c.self.view_is c.requires.fits) c.requires.sound c.in-Some.owner (sym c.report_owner.ensures ∙ c.in-Some.is) in
    rw q.1 refl

pub invariant_of-self : goal.invariant_of-self
invariant_of-self c =
    either c.report_for.result c.report_for.ensures.ok c.report_for.ensures.err
    (λ r.
    let t = told_report c.self.inside.active c.self.inside.parts c.args.input c.self.invariant.0 (fits-there c.args.self.now c.self.inside.active c.self.inside.parts c.args.input c.self.invariant.0 c.self.invariant.1 c.self.view_is c.requires.fits) c.requires.sound c.in-Some.owner (sym c.report_owner.ensures ∙ c.in-Some.is) r.0 c.report_for.new.now r.1 r.2 c.args.self.now c.self.invariant.1 c.self.view_is in
    (t.0, t.1))
    (λ e. rw e c.self.invariant)

pub returns-in-Some-clause-ok : goal.returns-in-Some-clause-ok
returns-in-Some-clause-ok c =
    on-ok c.report_for.result c.report_for.ensures.ok
    (λ r. (told_report c.self.inside.active c.self.inside.parts c.args.input c.self.invariant.0 (fits-there c.args.self.now c.self.inside.active c.self.inside.parts c.args.input c.self.invariant.0 c.self.invariant.1 c.self.view_is c.requires.fits) c.requires.sound c.in-Some.owner (sym c.report_owner.ensures ∙ c.in-Some.is) r.0 c.report_for.new.now r.1 r.2 c.args.self.now c.self.invariant.1 c.self.view_is).2)

-- ---- bytes that were read

pub read_on-requires-clause-called : goal.read_on-requires-clause-called
read_on-requires-clause-called c = read_calls c.self.inside.active c.self.inside.parts c.args.input c.self.invariant.0 (fits-there c.args.self.now c.self.inside.active c.self.inside.parts c.args.input c.self.invariant.0 c.self.invariant.1 c.self.view_is c.requires.fits) c.requires.sound (taken-there c.args.self.now c.self.inside.active c.self.inside.parts c.args.input None c.self.view_is (sym c.requires.unopened)) (sym c.is_bytes.ensures ∙ c.if-is_bytes.true)

pub invariant_of-self-then-is_bytes : goal.invariant_of-self-then-is_bytes
invariant_of-self-then-is_bytes c =
    either c.read_on.result c.read_on.ensures.ok c.read_on.ensures.err
    (λ r. let t = read_taken c.self.inside.active c.self.inside.parts c.args.input c.self.invariant.0 (fits-there c.args.self.now c.self.inside.active c.self.inside.parts c.args.input c.self.invariant.0 c.self.invariant.1 c.self.view_is c.requires.fits) c.requires.sound (taken-there c.args.self.now c.self.inside.active c.self.inside.parts c.args.input None c.self.view_is (sym c.requires.unopened)) (sym c.is_bytes.ensures ∙ c.if-is_bytes.true) c.read_on.new.now c.read_on.new.parts r in (t.ready, t.speaks))
    (λ e. rw (e.0, e.1) c.self.invariant)

pub returns-then-is_bytes-clause-ok : goal.returns-then-is_bytes-clause-ok
returns-then-is_bytes-clause-ok c =
    on-ok c.read_on.result c.read_on.ensures.ok
    (λ r.
    let o = offered c.self.inside.active c.self.inside.parts c.args.input c.self.invariant.0 (fits-there c.args.self.now c.self.inside.active c.self.inside.parts c.args.input c.self.invariant.0 c.self.invariant.1 c.self.view_is c.requires.fits) c.requires.sound (taken-there c.args.self.now c.self.inside.active c.self.inside.parts c.args.input None c.self.view_is (sym c.requires.unopened)) in
    let t = read_taken c.self.inside.active c.self.inside.parts c.args.input c.self.invariant.0 (fits-there c.args.self.now c.self.inside.active c.self.inside.parts c.args.input c.self.invariant.0 c.self.invariant.1 c.self.view_is c.requires.fits) c.requires.sound (taken-there c.args.self.now c.self.inside.active c.self.inside.parts c.args.input None c.self.view_is (sym c.requires.unopened)) (sym c.is_bytes.ensures ∙ c.if-is_bytes.true) c.read_on.new.now c.read_on.new.parts r in
    takes-answer c.args.self.now c.self.inside.active c.self.inside.parts c.args.input o.0 _ c.read_on.new.now c.read_on.new.parts c.self.invariant.0 c.self.invariant.1 c.self.view_is o.1 t.along t.ready)

-- ---- any other answer

pub answer_on-requires : goal.answer_on-requires
answer_on-requires c =
    may_take c.self.inside.active c.self.inside.parts c.args.input c.self.invariant.0 (fits-there c.args.self.now c.self.inside.active c.self.inside.parts c.args.input c.self.invariant.0 c.self.invariant.1 c.self.view_is c.requires.fits) c.requires.sound (taken-there c.args.self.now c.self.inside.active c.self.inside.parts c.args.input None c.self.view_is (sym c.requires.unopened)) c.make_room.new.parts c.make_room.ensures.waiting c.in_ok-make_room.ensures.ok
    (sym c.is_bytes.ensures ∙ c.if-is_bytes.false) (sym c.report_owner.ensures ∙ no-some c.report_owner.result c.in_default.not-Some) c.make_room.ensures.order c.in_ok-make_room.ensures.places

pub returns-clause-ok : goal.returns-clause-ok
returns-clause-ok c =
    let o = offered c.self.inside.active c.self.inside.parts c.args.input c.self.invariant.0 (fits-there c.args.self.now c.self.inside.active c.self.inside.parts c.args.input c.self.invariant.0 c.self.invariant.1 c.self.view_is c.requires.fits) c.requires.sound (taken-there c.args.self.now c.self.inside.active c.self.inside.parts c.args.input None c.self.view_is (sym c.requires.unopened)) in
    let same = given_same c.self.inside.active c.self.inside.parts c.args.input c.self.invariant.0 (fits-there c.args.self.now c.self.inside.active c.self.inside.parts c.args.input c.self.invariant.0 c.self.invariant.1 c.self.view_is c.requires.fits) c.requires.sound (taken-there c.args.self.now c.self.inside.active c.self.inside.parts c.args.input None c.self.view_is (sym c.requires.unopened)) c.make_room.new.parts c.make_room.ensures.waiting c.in_ok-make_room.ensures.ok in
    takes-answer c.args.self.now c.self.inside.active c.self.inside.parts c.args.input o.0 _ c.answer_on.new.now c.answer_on.new.parts c.self.invariant.0 c.self.invariant.1 c.self.view_is o.1
    (subst (λ (v : View). TellsSameStory v (host_view c.answer_on.new.now c.answer_on.new.parts)) same c.answer_on.ensures.along) c.answer_on.ensures.ready
