use Rattle.std.proofs.Common.{ap, ◌∙◌, ◌==◌, not, ◌&&◌}
use Rattle.outside.specs.Descriptors.{is_among}
use Rattle.outside.specs.InMemory.{LinkInMemory}
use Rattle.outside.proofs.LinkLaws.{among_removed}
use Rattle.outside.proofs.memory_link.MemLinkLink.close.Goals as goal

pub returns-clause-open : goal.returns-clause-open
returns-clause-open c = λ d. ap (is_among d) c.remove.ensures ∙ among_removed c.args.fd d c.self.inside.fds
    ∙ ap (λ (l : LinkInMemory). not (d == c.args.fd) && is_among d l.fds) c.self.view_is
