use Rattle.destructors.specs.Engine.{IsAsked}
use Rattle.destructors.proofs.Resting.{asked, answered-room}
use Rattle.tree_tests.proofs.tests.freeing.World.ask.Goals as goal

pub answer-requires-clause-asked : goal.answer-requires-clause-asked
answer-requires-clause-asked g c =
    asked c.args.self.now.engine c.args.self.now.tree c.in-Ask.x c.step.new.self c.step.new.tree c.requires.at_work c.requires.kept c.in-Ask.ensures.steps c.step.ensures.kept

pub returns : goal.returns
returns g c =
    let asks : IsAsked c.step.new.self =
    asked c.args.self.now.engine c.args.self.now.tree c.in-Ask.x c.step.new.self c.step.new.tree c.requires.at_work c.requires.kept c.in-Ask.ensures.steps c.step.ensures.kept in
    record {
      refs = c.step.ensures.refs;
      at_work = c.answer.ensures.at_work;
      settled = c.answer.ensures.settles;
      kept = c.answer.ensures.kept;
      room = answered-room c.step.new.self c.answer.new.self c.args.value c.step.new.tree asks c.answer.ensures.returned c.step.ensures.room;
    }
