use Rattle.std.proofs.Common.{sym, ◌∙◌}
use Rattle.fd_events.proofs.Losing.{first-watch-of}
use Rattle.fd_events.proofs.ring.Ring.first.Goals as goal

pub returns : goal.returns
returns c = c.watch.ensures ∙ first-watch-of c.args.self.now.watches c.args.c c.in_ok-oldest.oldest c.in_ok-oldest.ensures.events (sym c.in_ok-oldest.ensures.next)
