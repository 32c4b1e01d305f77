use Rattle.std.proofs.Common.{◌≡◌, ◌≤◌, ◌-◌, ◌++◌, length, take}
use Rattle.load_schedule.proofs.source.LoadSource.fill.Given as goal

abbrev pub invariant-fills : goal.invariant-fills
invariant-fills l = record {
  bytes : l.initial.self ≡ take l.filled l.buf ++ l.self;
  within : l.filled ≤ length l.buf;
  same : length l.buf ≡ length l.initial.buf;
}

abbrev pub decreases-fills : goal.decreases-fills
decreases-fills l = length l.buf - l.filled
