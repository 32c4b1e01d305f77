use Rattle.std.proofs.Common.{◌≡◌, ◌∙◌, sym, ℕ, Option, Some, None}
use Rattle.tree_specs.specs.declared.schedule.Reason.{Reason}
use Rattle.load_schedule.proofs.Taken.{load-taken}
use Rattle.load_schedule.proofs.LoadLaws.{writes-all}
use Rattle.load_schedule.proofs.loading.tally.Goals as goal

pub returns-in-Done : goal.returns-in-Done
returns-in-Done c =
    let done = rw (c.new-schedule.ensures, c.new-tally.ensures) at c.in-Done.ensures.replays in
    writes-all _ c.replay.new.out done.text

pub unreachable-requires-in-BadSchedule : goal.unreachable-requires-in-BadSchedule
unreachable-requires-in-BadSchedule c =
    let bad = rw (c.new-schedule.ensures, c.new-tally.ensures) at c.in-BadSchedule.ensures.replays in
    none-some c.in-BadSchedule.line c.in-BadSchedule.reason (sym (load-taken c.args.number c.args.count c.requires) ∙ bad.refused)
  where
    none-some : (line : ℕ) (reason : Reason) → ◌≡◌ {A = Option (ℕ × Reason)} None (Some (line, reason)) → ⊥
    none-some line reason e = cc
