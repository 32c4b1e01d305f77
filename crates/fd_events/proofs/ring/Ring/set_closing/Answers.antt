use Rattle.std.proofs.Common.{refl}
use Rattle.tree_specs.specs.Events.Rotation.{closing}
use Rattle.fd_events.specs.declared.change.Change.TheVariants.{SetsClosing}
use Rattle.fd_events.specs.Linked.{with_closing}
use Rattle.fd_events.proofs.Keeping.{keeps-changed, keeps-noted}
use Rattle.fd_events.proofs.ring.Ring.set_closing.Goals as goal

pub invariant_of-self : goal.invariant_of-self
invariant_of-self c =
    keeps-noted _ _ c.self.inside.changes.items c.and-self-inside.result.items (SetsClosing c.args.x) c.and-self-inside.ensures
    (keeps-changed c.self.inside.lane c.self.inside.holders.pairs _ _ c.self.invariant c.args.x c.set_closing.new.nodes (with_closing) (closing) (λ v. refl) (λ v. refl) (λ q v. refl) (λ w. refl) (λ w. refl) (λ w. refl)
    c.set_closing.ensures.nodes c.set_closing.ensures.len)
