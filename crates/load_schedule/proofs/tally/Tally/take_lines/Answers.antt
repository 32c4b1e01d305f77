use Rattle.std.proofs.Common.{◌≡◌, ◌+◌, ◌-◌, take, arith}
use Rattle.load_schedule.specs.Tallies.{noted}
use Rattle.load_schedule.proofs.TallyLaws.{sums-both}
use Rattle.load_schedule.proofs.tally.Tally.take_lines.Goals as goal

pub invariant_of-self-2 : goal.invariant_of-self-2
invariant_of-self-2 c =
    let more = c.in_ok-add.ensures in
    let told = c.told_by-told.result in
    let whole : told.reply_at + told.reply_len - told.reply_at ≡ told.reply_len = omega arith in (
      rw c.add_all.ensures (sums-both (noted c.self.inside.ended.items) (take told.len c.args.bytes.now) _ _ _ _ _ _ _ _ _ _ _ _
          c.self.invariant.0 c.told_by-told.ensures.sums more.refused more.freed more.dropped (rw whole at more.last)),
      c.self.invariant.1,
    )
