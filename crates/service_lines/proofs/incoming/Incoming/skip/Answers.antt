use Rattle.std.proofs.Common.{◌≡◌, subst, sym, ◌∙◌}
use Rattle.service_lines.specs.Cuts.{Came, resumed}
use Rattle.service_lines.proofs.Cutting.{nothing_left}
use Rattle.service_lines.proofs.incoming.Incoming.skip.Goals as goal

pub returns-then-is_empty-clause-resumed : goal.returns-then-is_empty-clause-resumed
returns-then-is_empty-clause-resumed c =
    subst (λ (i : Came). i ≡ resumed i) c.self.view_is (nothing_left c.self.inside.bytes.items c.self.inside.skips c.if-not-self.false (sym c.is_empty.ensures ∙ c.if-is_empty.true))
