-- A lane: distinct numbers in an order, as the two links of each tell it.
use Rattle.std.specs.Prelude.{◌≡◌, ℕ, List, [], ◌∷◌, Option, Some, None, Bool, false, ◌||◌, nat_eq, if◌then◌else◌}

abbrev pub first : List ℕ → Option ℕ
first [] = None
first (x ∷ xs) = Some x

-- the last one, where p stands before them all
abbrev pub last_from : Option ℕ → List ℕ → Option ℕ
last_from p [] = p
last_from p (x ∷ xs) = last_from (Some x) xs

abbrev pub last : List ℕ → Option ℕ
last xs = last_from None xs

abbrev pub is_at : Option ℕ → ℕ → Bool
is_at None k = false
is_at (Some x) k = nat_eq x k

abbrev pub has : List ℕ → ℕ → Bool
has [] k = false
has (x ∷ xs) k = nat_eq x k || has xs k

-- the one that stands next behind k
abbrev pub after : List ℕ → ℕ → Option ℕ
after [] k = None
after (x ∷ xs) k = if nat_eq x k then first xs else after xs k

-- the one that stands next before k, where p stands before them all
abbrev pub before_from : Option ℕ → List ℕ → ℕ → Option ℕ
before_from p [] k = None
before_from p (x ∷ xs) k = if nat_eq x k then p else before_from (Some x) xs k

abbrev pub before : List ℕ → ℕ → Option ℕ
before xs k = before_from None xs k

abbrev pub without : List ℕ → ℕ → List ℕ
without [] k = []
without (x ∷ xs) k = if nat_eq x k then xs else x ∷ without xs k

abbrev pub Distinct : List ℕ → Type 0
Distinct [] = Unit {0}
Distinct (x ∷ xs) = (has xs x ≡ false) × Distinct xs
