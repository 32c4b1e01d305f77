-- The history of what comes soon, which proofs alone read.
use Rattle.std.specs.Prelude.{List, [], ◌∷◌, ◌++◌, fold}
use Rattle.tree_specs.specs.declared.object.Obj.{Obj}
use Rattle.tree_specs.specs.declared.coming.Coming.{Coming}
use Rattle.immediates.specs.declared.change.Change.{Change}
use Rattle.immediates.specs.declared.change.Change.TheVariants.{Joins, Leaves, Opens, Closes}
use Rattle.tree_specs.specs.Events.Pending.{unscheduled}
use Rattle.tree_specs.specs.Events.Contexts.{without_context}

-- those that come soon after a change
abbrev pub changed : List Coming → Change → List Coming
changed xs (Joins y) = xs ++ y ∷ []
changed xs (Leaves x) = unscheduled xs x
changed xs (Opens c) = xs
changed xs (Closes c) = xs

-- the contexts after a change
abbrev pub recontexted : List Obj → Change → List Obj
recontexted cs (Joins y) = cs
recontexted cs (Leaves x) = cs
recontexted cs (Opens c) = c ∷ cs
recontexted cs (Closes c) = without_context cs c

abbrev pub coming_of : List (Change × Unit {0}) → List Coming
coming_of changes = fold (λ xs e. changed xs e.0) [] changes

abbrev pub contexts_of : List (Change × Unit {0}) → List Obj
contexts_of changes = fold (λ cs e. recontexted cs e.0) [] changes
