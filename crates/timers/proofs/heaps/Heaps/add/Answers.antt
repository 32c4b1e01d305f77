use Rattle.std.proofs.Common.{refl}
use Rattle.timers.proofs.Written.{added}
use Rattle.timers.proofs.heaps.Heaps.add.Goals as goal

pub returns : goal.returns
returns c = added c.args.self.now c.args.c c.requires.vacant _ c.new-dues.result refl c.add.ensures.pairs c.new-dues.ensures.items
