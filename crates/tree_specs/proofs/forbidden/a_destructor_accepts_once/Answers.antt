use Rattle.std.proofs.Common.{◌≡◌, true, false, [], ◌∷◌, refl}
use Rattle.tree_specs.specs.declared.event.Event.TheVariants.{Accepted, Refused}
use Rattle.tree_specs.specs.Promises.BadStories.{a, asks_a, told}
use Rattle.tree_specs.proofs.forbidden.a_destructor_accepts_once.Goals as goal

pub returns-clause-twice : goal.returns-clause-twice
returns-clause-twice c = λ o. let bad : true ≡ false = (o (told (Accepted a) ∷ []) (told (Accepted a)) [] refl).accepts_once a refl in cc

pub returns-clause-asked_again : goal.returns-clause-asked_again
returns-clause-asked_again c = λ o. let bad : true ≡ false = (o (told (Accepted a) ∷ []) (asks_a) [] refl).accepts_once a refl in cc

pub returns-clause-refuses_then : goal.returns-clause-refuses_then
returns-clause-refuses_then c = λ o. let bad : true ≡ false = (o (told (Accepted a) ∷ []) (told (Refused a 1)) [] refl).accepts_once a refl in cc
