use Rattle.std.proofs.Common.{◌≤◌, ◌+◌, ◌-◌, length, take, drop}
use Rattle.load_schedule.specs.Tallies.{Sums}
use Rattle.load_schedule.proofs.told.told_by.Given as goal

abbrev pub invariant-lines : goal.invariant-lines
invariant-lines l = record {
  within : l.told.len ≤ length l.bytes;
  reply_within : l.told.reply_at + l.told.reply_len ≤ length l.bytes;
  sums : Sums (take l.told.len l.bytes) l.told.counts.refused l.told.counts.freed l.told.counts.dropped (take l.told.reply_len (drop l.told.reply_at l.bytes));
  refused : l.told.counts.refused ≤ l.told.len;
  freed : l.told.counts.freed ≤ l.told.len;
  dropped : l.told.counts.dropped ≤ l.told.len;
}

abbrev pub decreases-lines : goal.decreases-lines
decreases-lines l = length l.bytes - l.told.len
