use Rattle.std.proofs.Common.{◌≡◌, List, sym, ap, subst, ◌∙◌}
use Rattle.tree_specs.specs.declared.frame.FreeFrame.{FreeFrame}
use Rattle.destructors.specs.Engine.{IsAsked}
use Rattle.destructors.specs.Frees.{OpenFrees, before, frees_of, returned}
use Rattle.destructors.specs.Works.{IsAtWork}
use Rattle.object_pool.specs.Objects.{Objects, frees_in}
use Rattle.object_pool.proofs.Beside.{returned-beside, speaking-beside}
use Rattle.object_pool.proofs.Keeping.{answer-room}
use Rattle.object_pool.proofs.Onward.{returned-works}
use Rattle.object_pool.proofs.Opening.{awaits-inside, innermost-has, seen}
use Rattle.object_pool.proofs.pool.ObjectPool.answer.Goals as goal

pub answer-requires-clause-asked : goal.answer-requires-clause-asked
answer-requires-clause-asked c = innermost-has IsAsked c.self.inside c.args.self.now c.self.view_is c.self.invariant c.requires.asked

pub answer-requires-clause-awaiting : goal.answer-requires-clause-awaiting
answer-requires-clause-awaiting c = awaits-inside c.self.inside c.args.self.now c.self.view_is c.requires.awaiting

pub invariant_of-self : goal.invariant_of-self
invariant_of-self c =
    let b = c.self.inside in
    let a = c.self.invariant in
    record {
      references = a.references;
      limits = a.limits;
      kept = c.answer.ensures.kept;
      room = answer-room b.engine c.answer.new.self b.tree c.args.value c.answer.ensures.returned (innermost-has IsAsked b c.args.self.now c.self.view_is a c.requires.asked) a.room;
      given = a.given;
      contexts = a.contexts;
      call = a.call;
      placed = a.placed;
      reference = a.reference;
      limit = a.limit;
      event = a.event;
      context = a.context;
    }

pub returns-clause-returned : goal.returns-clause-returned
returns-clause-returned c =
    let b = c.self.inside in
    let works : before c.answer.new.self b.tree.frees ≡ returned c.args.value (frees_of b.engine b.tree) = ap (λ (s : OpenFrees). s.works) c.answer.ensures.returned in
    let now : List FreeFrame → Objects = λ (fs : List FreeFrame). record (seen b) { works = fs } in
    subst (λ (o : Objects). now (before c.answer.new.self b.tree.frees) ≡ record o { works = returned c.args.value (frees_in o) }) c.self.view_is
    (ap now (works ∙ sym (returned-beside c.args.value b.events.upcoming (frees_of b.engine b.tree))))

pub returns-clause-settles : goal.returns-clause-settles
returns-clause-settles c = speaking-beside c.self.inside.events.upcoming (frees_of c.answer.new.self c.self.inside.tree) ∙ c.answer.ensures.settles

pub returns-clause-at_work : goal.returns-clause-at_work
returns-clause-at_work c =
    subst (λ (o : Objects). IsAtWork (frees_in o)) (sym (returns-clause-returned c))
    (returned-works c.args.value c.args.self.now.works c.args.self.now.pool c.requires.asked c.requires.awaiting)
