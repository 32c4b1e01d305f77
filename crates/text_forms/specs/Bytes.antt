-- Calls whose bytes are bytes: a list of numbers is the bytes of a call only where each is below 256.
use Rattle.std.specs.Prelude.{ℕ, Bool, true, nat_lt, List}
use Rattle.std.specs.List.{list_all}
use Rattle.tree_specs.specs.declared.call.Call.{Call}
use Rattle.tree_specs.specs.declared.schedule.Version.TheVariants.{One}
use Rattle.tree_specs.specs.Calls.Spelling.{Field, spelling}
use Rattle.tree_specs.specs.Calls.Spelling.Field.{SomeBytes}

abbrev pub are_bytes : List ℕ → Bool
are_bytes bs = list_all (λ b. nat_lt b 256) bs

abbrev pub field_has_bytes : Field → Bool
field_has_bytes (SomeBytes bytes) = are_bytes bytes
field_has_bytes f = true

abbrev pub has_bytes : Call → Bool
has_bytes c = list_all field_has_bytes (spelling One c).fields
