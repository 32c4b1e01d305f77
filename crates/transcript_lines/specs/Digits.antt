-- Bytes in hexadecimal, by their digits alone.
use Rattle.std.specs.Prelude.{ℕ, ◌*◌, ◌%◌, Bool, ◌&&◌, ◌||◌, nat_eq, nat_le, List, length}
use Rattle.std.specs.List.{list_all}
use Rattle.tree_specs.specs.declared.bounds.TheConstants.{OCTETS_LIMIT}

-- a digit, in lower case
abbrev pub is_digit : ℕ → Bool
is_digit b = (nat_le 48 b && nat_le b 57) || (nat_le 97 b && nat_le b 102)

-- two digits for each of 1 to 65,536 bytes
abbrev pub is_hexadecimal : List ℕ → Bool
is_hexadecimal text = list_all is_digit text && nat_eq (length text % 2) 0 && nat_le 2 (length text) && nat_le (length text) (2 * OCTETS_LIMIT)
