use Rattle.std.proofs.Common.{◌≡◌, true, false, List, [], ◌∷◌, refl, map}
use Rattle.std.specs.List.{list_all}
use Rattle.tree_specs.specs.declared.event.Event.TheVariants.{Freed, Unreferenced}
use Rattle.tree_specs.specs.Rules.Items.{Item}
use Rattle.tree_specs.specs.Promises.Orderly.{Orderly, uses}
use Rattle.tree_specs.specs.Promises.BadStories.{NoneOf, a, r, told, uses_of_a}
use Rattle.tree_specs.proofs.Calls.Checks.{both-true}
use Rattle.tree_specs.proofs.forbidden.nothing_starts_for_a_freed_object.Goals as goal

-- what uses an object doesn't come after its end
gone : (item : Item) → uses a item ≡ true → Orderly (told (Freed a 0) ∷ item ∷ []) → ⊥
gone item u o = let bad : true ≡ false = (o (told (Freed a 0) ∷ []) item [] refl).after_the_end a u in cc

all-gone : (items : List Item) → list_all (uses a) items ≡ true → NoneOf Orderly (map (λ item. told (Freed a 0) ∷ item ∷ []) items)
all-gone [] h = tt
all-gone (item ∷ items) h = let both = both-true (uses a item) (list_all (uses a) items) h in (gone item both.0, all-gone items both.1)

pub returns : goal.returns
returns c = record {
  uses = all-gone uses_of_a refl;
  reference = λ o. let bad : true ≡ false = (o (told (Unreferenced r a) ∷ []) (told (Unreferenced r a)) [] refl).dropped_once in cc;
}
