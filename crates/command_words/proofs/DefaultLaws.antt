-- Arguments with no default leave the rows as they are, and none fails.
use Rattle.std.proofs.Common.{◌≡◌, List, [], ◌∷◌, fold, refl, ap, ◌∙◌}
use Rattle.std.specs.List.{AllByRecursion}
use Rattle.clap.specs.Walk.{Row, Rule, has_row, with_default}
use Rattle.clap.specs.Faults.{default_fault, defaults_fault}
use Rattle.command_words.proofs.NumberLaws.{by_test}

abbrev HasNoDefault : Rule → Type 0
HasNoDefault a = a.defaults ≡ []

no_default : (rows : List Row) (a : Rule) → HasNoDefault a → with_default rows a ≡ rows
no_default rows a none = by_test (has_row a.id rows) (λ is. rw is refl) (λ is. rw (is, none) refl)

pub all_finished : (rows : List Row) (rules : List Rule) → AllByRecursion HasNoDefault rules → fold with_default rows rules ≡ rows
all_finished rows [] none = refl
all_finished rows (a ∷ rest) none =
    ap (λ (more : List Row). fold with_default more rest) (no_default rows a none.0) ∙ all_finished rows rest none.1

no_fault : (rows : List Row) (a : Rule) → HasNoDefault a → default_fault rows a ≡ []
no_fault rows a none = by_test (has_row a.id rows) (λ is. rw is refl) (λ is. rw (is, none) refl)

pub no_defaults_fault : (rows : List Row) (rules : List Rule) → AllByRecursion HasNoDefault rules → defaults_fault rows rules ≡ []
unfolding defaults_fault
no_defaults_fault rows [] none = refl
no_defaults_fault rows (a ∷ rest) none =
    rw (no_fault rows a none.0, no_default rows a none.0) (no_defaults_fault rows rest none.1)
