use Rattle.std.proofs.Common.{refl}
use Rattle.tree_specs.specs.Events.Rotation.{flagged}
use Rattle.fd_events.specs.declared.change.Change.TheVariants.{SetsFlags}
use Rattle.fd_events.specs.Linked.{with_flags}
use Rattle.fd_events.proofs.Keeping.{keeps-changed, keeps-noted}
use Rattle.fd_events.proofs.ring.Ring.set_flags.Goals as goal

pub invariant_of-self : goal.invariant_of-self
invariant_of-self c =
    keeps-noted _ _ c.self.inside.changes.items c.and-self-inside.result.items (SetsFlags c.args.x c.args.flags) c.and-self-inside.ensures
    (keeps-changed c.self.inside.lane c.self.inside.holders.pairs _ _ c.self.invariant c.args.x c.set_flags.new.nodes (with_flags c.args.flags) (flagged c.args.flags) (λ v. refl) (λ v. refl) (λ q v. refl) (λ w. refl) (λ w. refl) (λ w. refl)
    c.set_flags.ensures.nodes c.set_flags.ensures.len)
