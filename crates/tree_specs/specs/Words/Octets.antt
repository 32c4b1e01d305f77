-- The bytes of one read or write.
use Rattle.std.specs.Prelude.{ℕ, Bool, List, length, nat_le, ◌&&◌}
use Rattle.tree_specs.specs.declared.bounds.TheConstants.{OCTETS_LIMIT}

-- 1 to 65,536 bytes
abbrev pub is_octets : List ℕ → Bool
is_octets bs = nat_le 1 (length bs) && nat_le (length bs) OCTETS_LIMIT
