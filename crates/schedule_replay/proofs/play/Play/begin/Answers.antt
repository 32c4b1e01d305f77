use Rattle.std.proofs.Common.{List, ℕ, ◌∙◌, ◌++◌, ap}
use Rattle.tree_specs.specs.Texts.Text.{header}
use Rattle.schedule_replay.proofs.PlayLaws.{begins-play}
use Rattle.schedule_replay.proofs.play.Play.begin.Goals as goal

pub returns-clause-begins : goal.returns-clause-begins
returns-clause-begins g c = record {
  waits = c.in_ok-tell.ensures.waits;
  goes_on = λ n ls. begins-play (g.M.Machine.reads c.args.version) g.M.Machine.misfit (g.M.Machine.standing c.args.machine) (g.M.Machine.standing c.tell.new.machine) c.extend_from_slice.new.self.items c.tell.new.text.items n ls
      (c.in_ok-extend_from_slice.ensures.items ∙ ap (λ (l : List ℕ). l ++ header) c.new.ensures.items) c.in_ok-tell.ensures;
}
