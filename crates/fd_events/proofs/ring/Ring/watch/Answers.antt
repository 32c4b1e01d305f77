use Rattle.std.proofs.Common.{Some, ap, ◌∙◌}
use Rattle.std.specs.Option.{option_map}
use Rattle.tree_specs.specs.Events.Rotation.{watch_of}
use Rattle.fd_events.specs.Rotation.{Rotation}
use Rattle.fd_events.specs.Linked.{watching}
use Rattle.fd_events.proofs.ring.Ring.watch.Goals as goal

pub returns-in_err-node : goal.returns-in_err-node
returns-in_err-node c =
    c.from_residual.ensures ∙ ap (option_map (watching c.args.x.0)) c.in_err-node.ensures
    ∙ c.self.invariant.held c.args.x.0 ∙ ap (λ (r : Rotation). watch_of r.watches c.args.x) c.self.view_is

pub returns : goal.returns
returns c =
    ap Some c.watch.ensures ∙ ap (option_map (watching c.args.x.0)) c.in_ok-node.ensures
    ∙ c.self.invariant.held c.args.x.0 ∙ ap (λ (r : Rotation). watch_of r.watches c.args.x) c.self.view_is
