-- What an end tells of the calls that were made of it.
use Rattle.std.specs.Prelude.{◌≡◌, List, ◌++◌, Option, Some, None, ⊤}

-- What is told grows by these. An end that tells nothing tells nothing later, and one that tells may stop.
abbrev pub Tells : {A : Type 0} → Option (List A) → Option (List A) → List A → Type 0
Tells None new more = new ≡ None
Tells (Some told) None more = ⊤
Tells (Some told) (Some all) more = all ≡ told ++ more
