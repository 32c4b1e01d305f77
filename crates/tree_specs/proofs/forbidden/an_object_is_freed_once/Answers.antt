use Rattle.std.proofs.Common.{◌≡◌, true, false, [], ◌∷◌, refl}
use Rattle.tree_specs.specs.declared.event.Event.TheVariants.{Accepted, Freed}
use Rattle.tree_specs.specs.Promises.BadStories.{a, told}
use Rattle.tree_specs.proofs.forbidden.an_object_is_freed_once.Goals as goal

pub returns-clause-twice : goal.returns-clause-twice
returns-clause-twice c = λ o. let bad : true ≡ false = (o (told (Freed a 0) ∷ []) (told (Freed a 0)) [] refl).freed_once.0 in cc

pub returns-clause-unaccepted : goal.returns-clause-unaccepted
returns-clause-unaccepted c = λ o. let bad : false ≡ true = (o [] (told (Freed a 16)) [] refl).freed_once.1 in cc

pub returns-clause-without_it : goal.returns-clause-without_it
returns-clause-without_it c = λ o. let bad : true ≡ false = (o (told (Accepted a) ∷ []) (told (Freed a 0)) [] refl).freed_once.1 in cc
