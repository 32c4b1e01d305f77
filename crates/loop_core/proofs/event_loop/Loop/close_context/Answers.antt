use Rattle.std.proofs.Common.{◌∙◌}
use Rattle.fd_events.proofs.Losing.{ring-lost}
use Rattle.immediates.proofs.Contexts.{none-without as soon-stays}
use Rattle.timers.proofs.Contexts.{none-without as times-stay}
use Rattle.loop_core.proofs.event_loop.Loop.close_context.Goals as goal

pub returns-clause-soon : goal.returns-clause-soon
returns-clause-soon c = c.drop_context.ensures.coming ∙ soon-stays c.args.self.now.soon.coming c.args.c c.requires.soon

pub returns-clause-times : goal.returns-clause-times
returns-clause-times c = c.drop_context-2.ensures.dues ∙ times-stay c.args.self.now.times.dues c.args.c c.requires.times

pub returns-clause-ring : goal.returns-clause-ring
returns-clause-ring c = c.drop_context-3.ensures.watches ∙ ring-lost c.args.self.now.ring.watches c.args.c c.requires.ring
