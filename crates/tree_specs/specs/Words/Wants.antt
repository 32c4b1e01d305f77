-- Which descriptors are ready, and what for.
use Rattle.std.specs.Prelude.{◌^◌, Bool, true, List, [], ◌∷◌, nat_le, nat_lt, ◌&&◌}
use Rattle.std.specs.List.{list_all}
use Rattle.tree_specs.specs.declared.wants.Want.{Want}

-- 1 for reading, 2 for writing, 3 for both
abbrev pub has_flags : Want → Bool
has_flags w = nat_le 1 w.flags && nat_le w.flags 3

-- a descriptor is below 2 ^ 32
abbrev pub is_want : Want → Bool
is_want w = nat_lt w.fd (2 ^ 32) && has_flags w

abbrev pub comes_before : Want → Want → Bool
comes_before w v = nat_lt w.fd v.fd

-- the descriptors rise, so each stands once
abbrev pub rises : List Want → Bool
rises [] = true
rises (w ∷ []) = true
rises (w ∷ v ∷ vs) = comes_before w v && rises (v ∷ vs)

abbrev pub is_wants : List Want → Bool
is_wants ws = list_all is_want ws && rises ws
