use Rattle.std.proofs.Common.{◌∷◌}
use Rattle.tree_specs.specs.declared.schedule.Reason.TheVariants.{Limit}
use Rattle.schedule_replay.proofs.RunLaws.{refuses, limit-input}
use Rattle.schedule_replay.proofs.PlayLaws.{refuses-lines}
use Rattle.schedule_replay.proofs.play.Play.refuse_limit.Goals as goal

pub returns : goal.returns
returns g c = λ line rest over.
    let reads = g.M.Machine.reads c.args.self.now.version in
    let misfit = g.M.Machine.misfit in
    let s = g.M.Machine.standing c.args.self.now.machine in
    let n = c.args.number in
    refuses-lines reads misfit s c.requires n c.args.self.now.text.items c.refuse.new.self.text.items Limit c.refuse.result (line ∷ rest) c.refuse.ensures (refuses reads misfit s c.requires n line rest Limit (limit-input reads misfit s n line over))
