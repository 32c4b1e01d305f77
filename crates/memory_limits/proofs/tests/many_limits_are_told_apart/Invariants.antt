use Rattle.std.proofs.Common.{◌≡◌, []}
use Rattle.memory_limits.proofs.tests.many_limits_are_told_apart.Given as goal

-- none has a limit so far
abbrev pub invariant-loop : goal.invariant-loop
invariant-loop g l = l.world.1.limited ≡ []
