use Rattle.std.proofs.Common.{◌≡◌, [], ◌∷◌, true, refl, sym, ◌∙◌, ap, subst}
use Rattle.tree_specs.specs.Texts.Schedule.{misfit}
use Rattle.tree_specs.specs.Machine.View.{View, strays_of}
use Rattle.host_core.proofs.Offering.{unasked, question-view}
use Rattle.tree_stories.specs.Sights.{sights_of}
use Rattle.host_core.proofs.Straying.{not-taken, taken-there, taken-strays, taken-ends}
use Rattle.host_core.proofs.host.Host.check.Goals as goal

-- ---- nothing asks for it

pub returns-then-not-takes-clause-not_asked : goal.returns-then-not-takes-clause-not_asked
returns-then-not-takes-clause-not_asked c = (
  λ e. (ap (λ o. misfit o c.args.input.now) (question-view c.args.self.now c.self.inside.active c.self.inside.parts c.self.invariant.0 c.self.invariant.1 c.self.view_is)
      ∙ unasked _ c.args.input.now (sym c.takes.ensures ∙ c.if-not-takes.true)),
  λ e. refl,
)

pub returns-then-not-takes-clause-taken : goal.returns-then-not-takes-clause-taken
returns-then-not-takes-clause-taken c = λ fd. (
  λ e. cc,
  λ e. not-taken _ _ c.args.self.now.pool c.args.input.now fd (question-view c.args.self.now c.self.inside.active c.self.inside.parts c.self.invariant.0 c.self.invariant.1 c.self.view_is) (sym c.takes.ensures ∙ c.if-not-takes.true) e,
)

-- ---- a descriptor that is open

pub returns-in-Some-clause-strays : goal.returns-in-Some-clause-strays
returns-in-Some-clause-strays c = λ fd e.
    subst (λ (v : View). strays_of v (c.args.input.now ∷ []) ≡ true) c.self.view_is
    (taken-strays c.self.inside.active c.self.inside.parts c.args.input.now c.in-Some.fd c.self.invariant.0 (sym c.takes.ensures ∙ c.if-not-takes.false)
    (taken-there c.args.self.now c.self.inside.active c.self.inside.parts c.args.input.now c.taken.result c.self.view_is c.taken.ensures ∙ c.in-Some.is))

pub returns-in-Some-clause-ends : goal.returns-in-Some-clause-ends
returns-in-Some-clause-ends c = λ fd e is.
    subst (λ (v : View). sights_of v (c.args.input.now ∷ is) ≡ sights_of v []) c.self.view_is
    (taken-ends c.self.inside.active c.self.inside.parts c.args.input.now c.in-Some.fd c.self.invariant.0 (sym c.takes.ensures ∙ c.if-not-takes.false)
    (taken-there c.args.self.now c.self.inside.active c.self.inside.parts c.args.input.now c.taken.result c.self.view_is c.taken.ensures ∙ c.in-Some.is) is)
