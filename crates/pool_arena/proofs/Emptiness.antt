-- What an arena that holds nothing answers.
use Rattle.std.proofs.Common.{◌≡◌, ℕ, List, [], ◌∷◌, length, None, refl, sym, ◌∙◌}
use Rattle.std.specs.Ordering.{nat_cmp}
use Rattle.std.specs.FinMap as map
use Rattle.std.specs.FinMap.{get-entries, len-entries}
use Rattle.std.specs.FinMap.Entries.{find}

-- nothing is found in an empty map
pub none-in : {X : Type 0} (m : map.FinMap nat_cmp X) (q : ℕ) → map.len m ≡ 0 → map.get m q ≡ None
none-in {X} m q e = get-entries m q ∙ go (map.entries m) (sym (len-entries m) ∙ e)
  where
    go : (es : List (ℕ × X)) → length es ≡ 0 → find nat_cmp q es ≡ None
    go [] l = refl
    go (e ∷ es) l = cc
