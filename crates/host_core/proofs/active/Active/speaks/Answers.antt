use Rattle.std.proofs.Common.{◌∙◌}
use Rattle.host_core.proofs.Speaking.{speaks_frees}
use Rattle.host_core.proofs.active.Active.speaks.Goals as goal

pub returns-in-Freeing : goal.returns-in-Freeing
returns-in-Freeing c = λ waiting. c.announces.ensures ∙ speaks_frees c.args.self.now waiting c.args.objects.now c.in-Freeing.is
