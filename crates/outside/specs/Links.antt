-- What the calls of a link answer.
use Rattle.std.specs.Prelude.{◌≡◌, ℕ, ◌≤◌, ◌==◌, Bool, true, false, ◌&&◌, List, Result, Ok, Err, ⊤, bit_and}
use Rattle.std.specs.List.{list_all, list_any}
use Rattle.tree_specs.specs.declared.memory.Memory.{Memory}
use Rattle.tree_specs.specs.declared.wants.Want.{Want}
use Rattle.tree_specs.specs.Words.Wants.{is_wants}
use Rattle.outside.specs.declared.sink.Done.{Done}
use Rattle.outside.specs.declared.sink.Done.TheVariants as ends
use Rattle.outside.specs.declared.link.Accepted.{Accepted}
use Rattle.outside.specs.declared.link.Accepted.TheVariants as accepted
use Rattle.outside.specs.declared.link.LinkRead.{LinkRead}
use Rattle.outside.specs.declared.link.LinkRead.TheVariants as reads
use Rattle.outside.specs.declared.link.LinkWrote.{LinkWrote}
use Rattle.outside.specs.declared.link.LinkWrote.TheVariants as wrote
use Rattle.outside.specs.Descriptors.{SameOpen, Opens}

-- whether listening or waiting has failed
abbrev pub has_failed : Result Done Memory → Bool
has_failed (Ok ends.Done) = false
has_failed (Ok ends.Failed) = true
has_failed (Err e) = false

-- ---- what is ready

-- all that the descriptor is ready for is wanted of it
abbrev pub is_part : Want → Want → Bool
is_part ready want = (ready.fd == want.fd) && (bit_and want.flags ready.flags == ready.flags)

abbrev pub is_wanted : List Want → Want → Bool
is_wanted wants ready = list_any (λ want. is_part ready want) wants

-- the descriptors rise, and each is ready for something, all of which is wanted of it
pub record AreReady (wants ready : List Want) : Type 0 where
  pub rising : is_wants ready ≡ true
  pub wanted : list_all (λ r. is_wanted wants r) ready ≡ true

-- ---- what is open, and how much is moved

-- a descriptor that was taken is open now, and nothing else has changed
abbrev pub AcceptsOpen : (ℕ → Bool) → (ℕ → Bool) → Result Accepted Memory → Type 0
AcceptsOpen before now (Ok (accepted.Took fd)) = Opens before now fd
AcceptsOpen before now (Ok accepted.Again) = SameOpen before now
AcceptsOpen before now (Ok accepted.Fault) = SameOpen before now
AcceptsOpen before now (Err e) = SameOpen before now

-- at least one byte was read, and at most so many
abbrev pub ReadsWithin : LinkRead → ℕ → Type 0
ReadsWithin (reads.Got n) room = (1 ≤ n) × (n ≤ room)
ReadsWithin reads.End room = ⊤
ReadsWithin reads.Again room = ⊤
ReadsWithin reads.Fault room = ⊤

-- at least one byte was written, and at most so many
abbrev pub WritesWithin : LinkWrote → ℕ → Type 0
WritesWithin (wrote.Wrote n) len = (1 ≤ n) × (n ≤ len)
WritesWithin wrote.Again len = ⊤
WritesWithin wrote.Fault len = ⊤
