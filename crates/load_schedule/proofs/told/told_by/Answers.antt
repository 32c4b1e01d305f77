use Rattle.std.proofs.Common.{◌≡◌, ◌<◌, ◌≤◌, ◌+◌, ◌-◌, length, take, drop, arith}
use Rattle.std.proofs.lemmas.List.{take_rest, length-drop, length-take-le}
use Rattle.line_pieces.specs.Cuts.{EndsAt}
use Rattle.load_schedule.proofs.TallyLaws.{told-more, one-more-le, reply-within}
use Rattle.load_schedule.proofs.told.told_by.Goals as goal

pub lines-preserved : goal.lines-preserved
lines-preserved c =
    let before = c.lines.invariant in
    let more = c.and-told.ensures in
    let end : EndsAt (drop c.lines.told.len c.args.bytes.now) c.in-Some.len = rw take_rest at c.in-Some.ensures in
    let within : c.lines.told.len + c.in-Some.len < length c.args.bytes.now = omega (arith, end.within, length-drop c.lines.told.len c.args.bytes.now) in
    let here : c.lines.told.len + c.in-Some.len ≤ length c.args.bytes.now = omega (arith, within) in
    let whole : c.lines.told.len + c.in-Some.len - c.lines.told.len ≡ c.in-Some.len = omega arith in
    let many : length (take c.in-Some.len (drop c.lines.told.len c.args.bytes.now)) ≡ c.in-Some.len = length-take-le c.in-Some.len (drop c.lines.told.len c.args.bytes.now) (omega (arith, end.within)) in
    let len = rw (whole, many) at more.len in
    let reply_len = rw (whole, many) at more.reply_len in
    let reply_at = rw whole at more.reply_at in
    let refused : c.and-told.result.counts.refused ≤ c.lines.told.counts.refused + 1 = one-more-le _ _ _ more.refused in
    let freed : c.and-told.result.counts.freed ≤ c.lines.told.counts.freed + 1 = one-more-le _ _ _ more.freed in
    let dropped : c.and-told.result.counts.dropped ≤ c.lines.told.counts.dropped + 1 = one-more-le _ _ _ more.dropped in
    record {
      within = omega (arith, within, len);
      reply_within = reply-within _ _ _ _ _ _ _ _ reply_at reply_len here before.reply_within;
      sums = told-more c.args.bytes.now c.lines.told.len c.in-Some.len _ _ _ _ _ _ _ _ _ _ _ before.sums end
          len (rw whole at more.refused) (rw whole at more.freed) (rw whole at more.dropped) reply_at reply_len;
      refused = omega (arith, len, before.refused);
      freed = omega (arith, len, before.freed);
      dropped = omega (arith, len, before.dropped);
    }
