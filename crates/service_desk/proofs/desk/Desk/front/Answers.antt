use Rattle.std.proofs.Common.{subst}
use Rattle.service_rules.specs.Knowledge.{Knowledge}
use Rattle.service_lines.specs.declared.incoming.Cut.{Cut}
use Rattle.service_desk.specs.Fronts.{CutFits, DoneFits}
use Rattle.service_desk.proofs.Fronting.{dropped-done, long-done}
use Rattle.service_desk.proofs.desk.Desk.front.Goals as goal

pub returns-then-drop_rest-clause-ok : goal.returns-then-drop_rest-clause-ok
returns-then-drop_rest-clause-ok c = dropped-done c.args.session c.args.self.now.knowledge c.drop_rest.new.self.knowledge c.drop_rest.ensures.dropped (c.drop_rest.ensures.fewer c.if-drop_rest.true)

pub returns-in_ok-refuse_long-in-Long-clause-ok : goal.returns-in_ok-refuse_long-in-Long-clause-ok
returns-in_ok-refuse_long-in-Long-clause-ok c =
    subst (λ (k : Knowledge). DoneFits c.args.session k c.refuse_long.new.self.knowledge) (c.drop_rest.ensures.kept c.if-drop_rest.false)
    (long-done c.args.session c.drop_rest.new.self.knowledge c.refuse_long.new.self.knowledge
    (subst (λ (k : Cut). CutFits k c.args.session c.drop_rest.new.self.knowledge) c.in-Long.is c.cut.ensures)
    c.in_ok-refuse_long-in-Long.ensures.ok)
